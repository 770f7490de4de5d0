use Rattle.outer_code.proofs.Filled.{Filled}
use Rattle.corrector.proofs.Folding.{folded}
use Rattle.corrector.proofs.errors.fold.Given as goal

abbrev pub invariant-loop-j : goal.invariant-loop-j
invariant-loop-j l = Filled (folded l.x l.initial.sums) 0 l.j l.initial.sums l.sums
