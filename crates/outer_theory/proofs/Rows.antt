-- The rows of the elimination: coefficients that combine syndromes.
-- Assumes nothing.
use Rattle.std.proofs.Common.{◌≡◌, ℕ, suc, ◌+◌, ◌<◌, ◌≤◌, Bool, true, List, [], get_or, Option, Some}
use Rattle.field.specs.Field.{◌⊗◌}
use Rattle.words.specs.Words.{digit, flags}
use Rattle.outer_theory.specs.Sums.{sum, count}

-- the coefficient l of row r
abbrev pub at : List (List ℕ) → ℕ → ℕ → ℕ
at rows r l = get_or (get_or rows r []) l 0

-- row r applied to the limit + 1 syndromes from j on
unfoldable pub applied : ℕ → List (List ℕ) → ℕ → List ℕ → ℕ → ℕ
applied limit rows r s j = sum (suc limit) (λ l. at rows r l ⊗ get_or s (j + l) 0)

-- how many of the first n rows are left
abbrev pub left_in : ℕ → List Bool → ℕ
left_in n left = count n (λ r. digit (flags left r))

-- the rows' shape: row r has 1 at place r and 0 behind it
pub record Triangular (limit : ℕ) (rows : List (List ℕ)) : Type 0 where
  pub diagonal : (r : ℕ) → r ≤ limit → at rows r r ≡ 1
  pub behind : (r l : ℕ) → r < l → l ≤ limit → at rows r l ≡ 0

-- the rows that are left vanish on the syndromes from each of the first j on, and at most j are not left
pub record Reduced (limit : ℕ) (rows : List (List ℕ)) (left : List Bool) (s : List ℕ) (j : ℕ) : Type 0 where
  pub shape : Triangular limit rows
  pub kernel : (r : ℕ) → r ≤ limit → flags left r ≡ true → (i : ℕ) → i < j → applied limit rows r s i ≡ 0
  pub many : suc limit ≤ left_in (suc limit) left + j

-- a sweep for the syndromes from j on has come to row r; pivot is the first row that does not vanish on them, if there is one so far
pub record Swept (limit : ℕ) (rows : List (List ℕ)) (left : List Bool) (s : List ℕ) (j r : ℕ) (pivot : Option ℕ) : Type 0 where
  pub shape : Triangular limit rows
  pub kernel : (r : ℕ) → r ≤ limit → flags left r ≡ true → (i : ℕ) → i < j → applied limit rows r s i ≡ 0
  pub before : (i : ℕ) → i < r → flags left i ≡ true → (pivot ≡ Some i → ⊥) → applied limit rows i s j ≡ 0
  pub found : (p : ℕ) → pivot ≡ Some p → (p < r) × (applied limit rows p s j ≡ 0 → ⊥) × (flags left p ≡ true)
