use Rattle.standard.specs.Profiles.{period}
use Rattle.words.specs.Words.{flags}
use Rattle.receiver.specs.Kinds.{Kinds}
use Rattle.receiver.proofs.kinds.fill_period.Given as goal

abbrev pub invariant-loop-i : goal.invariant-loop-i
invariant-loop-i l = Kinds (period l.fn.rate) (flags l.heard) l.rows l.i
