-- One turn of the loop that folds power sums.
-- Assumes nothing.
use Rattle.std.proofs.Common.{◌≡◌, ℕ, ◌+◌, ◌<◌, List, length, get_or, set, ap, ◌∙◌, ap₂, le_refl, arith}
use lib.Bits.{bit_xor}
use Rattle.field.specs.Field.{◌⊕◌, ◌⊗◌}
use Rattle.outer_code.proofs.Filled.{Filled, filled_more}

abbrev pub folded : ℕ → List ℕ → ℕ → ℕ
folded x old j = get_or old (j + 1) 0 ⊕ (x ⊗ get_or old j 0)

pub folded_more : (x : ℕ) (old sums : List ℕ) (j m : ℕ) → j < length old → m ≡ x ⊗ get_or sums j 0 → Filled (folded x old) 0 j old sums
    → Filled (folded x old) 0 (j + 1) old (set sums j (bit_xor (get_or sums (j + 1) 0) m))
unfolding ◌⊕◌
folded_more x old sums j m l e w =
    filled_more (folded x old) 0 j (bit_xor (get_or sums (j + 1) 0) m) old sums w (omega arith) l
    (ap₂ bit_xor (w.behind (j + 1) (omega arith)) (e ∙ ap (λ (y : ℕ). x ⊗ y) (w.behind j (le_refl j))))
