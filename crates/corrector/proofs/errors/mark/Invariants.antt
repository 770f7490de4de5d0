use Rattle.std.proofs.Common.{◌≡◌, ℕ, suc, ◌+◌, ◌*◌, ◌<◌, get_or}
use Rattle.field.specs.Field.{◌⊗◌, gpow}
use Rattle.outer_theory.specs.Sums.{sum}
use Rattle.outer_theory.specs.Syndromes.{X}
use Rattle.corrector.proofs.errors.mark.Given as goal

abbrev pub invariant-loop-k : goal.invariant-loop-k
invariant-loop-k l =
    (k : ℕ) → k < l.k → get_or l.marks k 0 ≡ sum (suc l.shape.limit) (λ i. get_or l.locator i 0 ⊗ gpow (X (2 * l.shape.limit) (2 * l.shape.limit + l.shape.size) k) i)
