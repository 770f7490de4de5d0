use Rattle.outer_theory.proofs.Rows.{Reduced}
use Rattle.corrector.proofs.locator.locator.Given as goal

abbrev pub invariant-loop-j : goal.invariant-loop-j
invariant-loop-j l = Reduced l.shape.limit l.elimination.rows l.elimination.left l.syndromes l.j
