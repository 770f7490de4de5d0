-- Errors of a block that explain its syndromes.
-- Assumes nothing.
use Rattle.std.proofs.Common.{◌≡◌, ℕ, ◌*◌, ◌<◌, ◌≤◌, List, get_or}
use Rattle.words.specs.Words.{Bytes}
use Rattle.outer_theory.proofs.Sums.{zeros}
use Rattle.outer_theory.specs.Syndromes.{syndrome}

-- a block of n bytes whose syndromes are s is an outer word plus the errors e, which are 0 wherever a mark is not; at most limit are marked
pub record Errors (limit n : ℕ) (s marks : List ℕ) (e : Bytes) : Type 0 where
  pub explained : (j : ℕ) → j < 2 * limit → get_or s j 0 ≡ syndrome (2 * limit) n e j
  pub outside : (q : ℕ) → q < n → (get_or marks q 0 ≡ 0 → ⊥) → e q ≡ 0
  pub bytes : (q : ℕ) → q < n → e q < 256
  pub few : zeros n (λ q. get_or marks q 0) ≤ limit
