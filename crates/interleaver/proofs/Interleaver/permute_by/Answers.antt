use native.Mathlib.Omega.{arith}
use Rattle.words.specs.Words.{flags}
use Rattle.standard.specs.Modulations.{carrier_bits}
use Rattle.interleaver.specs.Steps.{from, to}
use Rattle.interleaver.proofs.Writing.{base_at, into_way, symbols_more}
use Rattle.interleaver.proofs.Interleaver.permute_by.Goals as goal

pub loop-b-preserved : goal.loop-b-preserved
loop-b-preserved c =
    let x = c.args.self in
    symbols_more x.subchannels (carrier_bits x.modulation) c.loop-b.b _ (from c.args.way x) (to c.args.way x) (flags c.args.word.now) (flags c.args.out.now) (flags c.loop-b.out) (flags c.permute_symbol.new.out)
    (into_way c.args.way x) c.loop-b.invariant c.permute_symbol.ensures (base_at x.subchannels (carrier_bits x.modulation) c.loop-b.b c.width.result _ c.width.ensures.value (omega arith))
