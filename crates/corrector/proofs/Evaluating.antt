-- The locator's values, coefficient by coefficient.
-- Assumes nothing.
use Rattle.std.proofs.Common.{◌≡◌, ℕ, ◌+◌, ◌<◌, List, length, get_or, sym, ap, ◌∙◌, ap₂, add-one}
use Rattle.field.specs.Field.{◌⊕◌, ◌⊗◌, gexp, gpow}
use Rattle.field.proofs.Field.{add_assoc, add_zero, zero_mul}
use Rattle.field.proofs.Powers.{pow_exp_comm}
use Rattle.outer_theory.specs.Sums.{sum}
use Rattle.outer_theory.proofs.Sums.{sum_suc}

pub coefficient_log : (a c l m old new : ℕ) → gexp a ≡ c → new ≡ old ⊕ (gexp a ⊗ gpow (gexp l) m) → new ≡ old ⊕ (c ⊗ gpow (gexp m) l)
coefficient_log a c l m old new e h = h ∙ ap₂ (λ (y z : ℕ). old ⊕ (y ⊗ z)) e (pow_exp_comm l m)

pub coefficient_none : (c l m v : ℕ) → c ≡ 0 → v ≡ v ⊕ (c ⊗ gpow (gexp m) l)
coefficient_none c l m v e = sym (ap (λ (y : ℕ). v ⊕ (y ⊗ gpow (gexp m) l)) e ∙ ap (λ (y : ℕ). v ⊕ y) (zero_mul (gpow (gexp m) l)) ∙ add_zero v)

-- the terms below x^l have been added to the values
abbrev pub Evaluated : List ℕ → List ℕ → List ℕ → ℕ → Type 0
Evaluated a old values l = (m : ℕ) → m < length old → get_or values m 0 ≡ get_or old m 0 ⊕ sum l (λ i. get_or a i 0 ⊗ gpow (gexp m) i)

pub evaluated_start : (a old : List ℕ) → Evaluated a old old 0
unfolding sum
evaluated_start a old m h = sym (add_zero (get_or old m 0))

pub evaluated_more : (a old values values' : List ℕ) (l : ℕ) → ((m : ℕ) → m < length old → get_or values' m 0 ≡ get_or values m 0 ⊕ (get_or a l 0 ⊗ gpow (gexp m) l)) → Evaluated a old values l → Evaluated a old values' (l + 1)
evaluated_more a old values values' l h s m b =
    h m b ∙ ap (λ (y : ℕ). y ⊕ (get_or a l 0 ⊗ gpow (gexp m) l)) (s m b) ∙ add_assoc (get_or old m 0) (sum l (λ i. get_or a i 0 ⊗ gpow (gexp m) i)) (get_or a l 0 ⊗ gpow (gexp m) l)
    ∙ ap (λ (y : ℕ). get_or old m 0 ⊕ y)
    (sym (sum_suc l (λ i. get_or a i 0 ⊗ gpow (gexp m) i)) ∙ ap (λ (q : ℕ). sum q (λ i. get_or a i 0 ⊗ gpow (gexp m) i)) (sym (add-one l)))
