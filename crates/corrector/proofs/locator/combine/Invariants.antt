use Rattle.std.proofs.Common.{◌≡◌, get_or, length}
use Rattle.field.specs.Field.{◌⊗◌}
use Rattle.outer_theory.specs.Sums.{sum}
use Rattle.corrector.proofs.locator.combine.Given as goal

abbrev pub invariant-loop-coefficient : goal.invariant-loop-coefficient
invariant-loop-coefficient l = l.sum ≡ sum (length l.yielded) (λ i. get_or l.row i 0 ⊗ get_or l.syndromes i 0)
