use Rattle.words.specs.Words.{flags}
use Rattle.standard.specs.Modulations.{carrier_bits}
use Rattle.standard.proofs.Modulations.{modulated}
use Rattle.constellation.proofs.Hearing.{heard_more}
use Rattle.constellation.proofs.hear_by.Goals as goal

pub loop-t-preserved : goal.loop-t-preserved
loop-t-preserved c =
    heard_more (carrier_bits c.args.modulation) c.loop-t.t c.args.points.now (flags c.args.bits.now) (flags c.loop-t.bits) (flags c.hear_point.new.bits)
    (modulated c.args.modulation) c.loop-t.invariant c.hear_point.ensures
