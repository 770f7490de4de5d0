use Rattle.std.proofs.Common.{◌*◌}
use Rattle.words.specs.Words.{flags}
use Rattle.receiver.specs.Kinds.{Kinds}
use Rattle.receiver.proofs.kinds.fill_kinds.Given as goal

abbrev pub invariant-loop-q : goal.invariant-loop-q
invariant-loop-q l = Kinds l.period (flags l.heard) l.rows (l.period * l.q)
