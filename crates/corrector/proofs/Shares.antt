-- What each byte of a block gives to its syndromes.
-- Assumes nothing.
use Rattle.std.proofs.Common.{◌≡◌, ℕ, ◌+◌, ◌-◌, ◌%◌, ◌<◌, List, length, get_or, sym, ap, ◌∙◌, ap₂, add-one}
use Rattle.field.specs.Field.{◌⊕◌, ◌⊗◌, gexp, gpow}
use Rattle.field.proofs.Field.{add_assoc, add_zero, exp_mul, zero_mul}
use Rattle.words.specs.Words.{Bytes}
use Rattle.outer_theory.specs.Sums.{sum}
use Rattle.outer_theory.specs.Syndromes.{V, X, place, weight, syndrome}
use Rattle.outer_theory.proofs.Products.{exp_mod}
use Rattle.outer_theory.proofs.Sums.{sum_suc}

-- what byte k gives to the syndrome j
abbrev pub share : ℕ → ℕ → Bytes → ℕ → ℕ → ℕ
share t n w j k = (w k ⊗ V t n k) ⊗ gpow (X t n k) j

pub share_log : (t n k a b m byte j : ℕ) → gexp a ≡ byte → gexp b ≡ weight (16 - t) (m + (16 - t)) → m ≡ place t n k
    → gexp ((a + b) % 255) ⊗ gpow (gexp m) j ≡ (byte ⊗ V t n k) ⊗ gpow (X t n k) j
share_log t n k a b m byte j ea eb em =
    ap₂ (λ (y i : ℕ). y ⊗ gpow (gexp i) j)
    (exp_mod (a + b) ∙ sym (exp_mul a b) ∙ ap₂ ◌⊗◌ ea (eb ∙ ap (λ (i : ℕ). weight (16 - t) (i + (16 - t))) em)) em

pub share_none : (t n k byte j v : ℕ) → byte ≡ 0 → v ≡ v ⊕ ((byte ⊗ V t n k) ⊗ gpow (X t n k) j)
share_none t n k byte j v e =
    sym (ap (λ (y : ℕ). v ⊕ ((y ⊗ V t n k) ⊗ gpow (X t n k) j)) e
    ∙ ap (λ (y : ℕ). v ⊕ (y ⊗ gpow (X t n k) j)) (zero_mul (V t n k)) ∙ ap (λ (y : ℕ). v ⊕ y) (zero_mul (gpow (X t n k) j)) ∙ add_zero v)

-- the first k bytes have been added to the syndromes
abbrev pub Summed : ℕ → ℕ → Bytes → List ℕ → List ℕ → ℕ → Type 0
Summed t n w old sums k = (j : ℕ) → j < length old → get_or sums j 0 ≡ get_or old j 0 ⊕ sum k (share t n w j)

pub summed_start : (t n : ℕ) (w : Bytes) (old : List ℕ) → Summed t n w old old 0
unfolding sum
summed_start t n w old j l = sym (add_zero (get_or old j 0))

pub summed_more : (t n : ℕ) (w : Bytes) (old sums sums' : List ℕ) (k : ℕ) → ((j : ℕ) → j < length old → get_or sums' j 0 ≡ get_or sums j 0 ⊕ share t n w j k)
    → Summed t n w old sums k → Summed t n w old sums' (k + 1)
summed_more t n w old sums sums' k h s j l =
    h j l ∙ ap (λ (y : ℕ). y ⊕ share t n w j k) (s j l) ∙ add_assoc (get_or old j 0) (sum k (share t n w j)) (share t n w j k)
    ∙ ap (λ (y : ℕ). get_or old j 0 ⊕ y) (sym (sum_suc k (share t n w j)) ∙ ap (λ (m : ℕ). sum m (share t n w j)) (sym (add-one k)))

pub summed_end : (t n : ℕ) (w : Bytes) (old sums : List ℕ) (k : ℕ) → k ≡ n → Summed t n w old sums k → (j : ℕ) → j < length old → get_or sums j 0 ≡ get_or old j 0 ⊕ syndrome t n w j
unfolding syndrome
summed_end t n w old sums k e s j l = s j l ∙ ap (λ (m : ℕ). get_or old j 0 ⊕ sum m (share t n w j)) e
