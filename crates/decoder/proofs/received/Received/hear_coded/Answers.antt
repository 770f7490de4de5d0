use Rattle.words.specs.Words.{flags}
use Rattle.decoder.proofs.received.Received.hear_coded.Goals as goal

pub returns : goal.returns
returns c =
    record {
      order = flags c.hear.new.bits;
      heard = rw (c.modulation.ensures, c.profile.ensures.value, c.args.self.now.whole) at c.hear.ensures.heard;
      interleaved = rw (c.interleaver.ensures.band, c.interleaver.ensures.bits, c.symbols.ensures) at c.deinterleave.ensures.interleaved;
    }
