use Rattle.coder.proofs.Steps.{sent_done}
use Rattle.coder.proofs.burst.Burst.write_sent.Goals as goal

pub returns-clause-bits : goal.returns-clause-bits
returns-clause-bits c =
    sent_done c.args.self.now.order c.args.self.now.payload.now c.write_coded.new.coded c.interleave.new.sent c.write_coded.ensures
    (rw (c.interleaver.ensures.band, c.interleaver.ensures.bits, c.symbols.ensures) at c.interleave.ensures.interleaved)
