use Rattle.std.proofs.Common.{◌≡◌}
use Rattle.outer_theory.proofs.Rows.{Swept}
use Rattle.corrector.proofs.locator.Elimination.sweep.Given as goal

abbrev pub invariant-loop-r : goal.invariant-loop-r
invariant-loop-r l = (l.self.left ≡ l.initial.self.left) × Swept l.equation.shape.limit l.self.rows l.self.left l.equation.syndromes l.equation.first l.r l.pivot
