use Rattle.words.specs.Words.{flags}
use Rattle.standard.specs.Modulations.{carrier_bits}
use Rattle.constellation.proofs.Hearing.{HeardTo}
use Rattle.constellation.proofs.hear_by.Given as goal

abbrev pub invariant-loop-t : goal.invariant-loop-t
invariant-loop-t l = HeardTo (carrier_bits l.modulation) l.t l.points (flags l.initial.bits) (flags l.bits)
