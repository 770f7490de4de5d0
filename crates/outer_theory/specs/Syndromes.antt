-- The weighted syndromes of a block, and blocks that differ.
-- Assumes nothing.
use Rattle.std.specs.Prelude.{ℕ, zero, suc, ◌+◌, ◌-◌, Bool, true, false, List, length, nat_lt}
use Rattle.field.specs.Field.{◌⊕◌, ◌⊗◌, gexp, gpow}
use Rattle.words.specs.Words.{Bytes, word}
use Rattle.outer_theory.specs.Sums.{sum, count}

-- in how many bytes the second block differs from the first
abbrev pub differing : List ℕ → List ℕ → ℕ
differing xs ys = count (length xs) (λ k. word xs k ⊕ word ys k)

abbrev pub pick : Bool → ℕ → ℕ → ℕ
pick true a b = a
pick false a b = b

-- of a block of n bytes, the first t of them parity: the power of x whose coefficient byte k is, counted from the lowest that is sent
unfoldable pub place : ℕ → ℕ → ℕ → ℕ
place t n k = pick (nat_lt k t) (t - 1 - k) (n + t - 1 - k)

-- the product of 02^i + 02^l for l below e: it is 0 at the places that are not sent, and only there
unfoldable pub weight : ℕ → ℕ → ℕ
weight zero i = 1
weight (suc e) i = weight e i ⊗ (gexp i ⊕ gexp e)

-- the locator of byte k
abbrev pub X : ℕ → ℕ → ℕ → ℕ
X t n k = gexp (place t n k)

-- the weight of byte k
abbrev pub V : ℕ → ℕ → ℕ → ℕ
V t n k = weight (16 - t) (place t n k + (16 - t))

-- the weighted syndrome j of such a block
unfoldable pub syndrome : ℕ → ℕ → Bytes → ℕ → ℕ
syndrome t n w j = sum n (λ k. (w k ⊗ V t n k) ⊗ gpow (X t n k) j)
