-- The weights from one row of products: (02^1 + 1)(02^2 + 1) .. (02^n + 1) for each n, by their logarithms.
-- Assumes nothing.
use Rattle.std.proofs.Common.{◌≡◌, ℕ, zero, suc, ◌+◌, ◌-◌, ◌*◌, ◌/◌, ◌%◌, ◌<◌, ◌≤◌, List, [], ◌∷◌, get_or, sym, refl, ap, ◌∙◌, ap₂, arith}
use native.Mathlib.Nat as N
use Rattle.field.specs.Field.{◌⊕◌, ◌⊗◌, gexp}
use Rattle.field.proofs.Field.{add_lt, mul_assoc, mul_comm, mul_left_comm, mul_add, mul_one, mul_lt, exp_lt, exp_mul, exp_255, exp_255_more, exp_apart, exp_of_log}
use Rattle.field.proofs.Tables.{logarithm}
use Rattle.field.proofs.Powers.{same_if_zero, exp_zero}
use Rattle.outer_theory.specs.Syndromes.{weight}
use Rattle.outer_theory.proofs.Word.{weight_lt}

-- ---- exponents modulo 255
exp_turns : (q r : ℕ) → gexp (r + q * 255) ≡ gexp r
exp_turns zero r = ap gexp (let e : r + 0 * 255 ≡ r = omega arith in e)
exp_turns (suc q) r = ap gexp (let e : r + suc q * 255 ≡ (r + q * 255) + 255 = omega arith in e) ∙ exp_255_more (r + q * 255) ∙ exp_turns q r

pub exp_mod : (a : ℕ) → gexp (a % 255) ≡ gexp a
exp_mod a = sym (exp_turns (a / 255) (a % 255)) ∙ ap gexp (N.mod-add-div' a 255)

-- ---- products
-- (02^1 + 1) .. (02^n + 1)
unfoldable pub product : ℕ → ℕ
product zero = 1
product (suc n) = product n ⊗ (gexp (suc n) ⊕ 1)

pub product_lt : (n : ℕ) → product n < 256
unfolding product
product_lt zero = omega arith
product_lt (suc n) = mul_lt (product n) (gexp (suc n) ⊕ 1)

-- the logarithms of the n products from number i on, of which the first has the logarithm a
unfoldable pub product_logs : ℕ → ℕ → ℕ → List ℕ
product_logs zero i a = []
product_logs (suc n) i a = a ∷ product_logs n (suc i) ((a + logarithm (gexp (suc i) ⊕ 1)) % 255)

factor_positive : (i : ℕ) → suc i < 255 → 0 < gexp (suc i) ⊕ 1
factor_positive i h = positive (gexp (suc i) ⊕ 1) (λ z. apart (same_if_zero (gexp (suc i)) 1 z))
  where
    positive : (a : ℕ) → (a ≡ 0 → ⊥) → 0 < a
    positive zero n = absurd (n refl)
    positive (suc a) n = omega arith

    apart : gexp (suc i) ≡ 1 → ⊥
    apart e = let q = exp_apart (suc i) 0 h (omega arith) (e ∙ sym exp_zero) in omega arith

factor_log : (i : ℕ) → suc i < 255 → gexp (logarithm (gexp (suc i) ⊕ 1)) ≡ gexp (suc i) ⊕ 1
factor_log i h = exp_of_log (gexp (suc i) ⊕ 1) (add_lt (gexp (suc i)) 1 (exp_lt (suc i)) (omega arith)) (factor_positive i h)

logs_from : (n i a : ℕ) → i + n ≤ 255 → a < 255 → gexp a ≡ product i → (k : ℕ) → k < n
    → (gexp (get_or (product_logs n i a) k 0) ≡ product (i + k)) × (get_or (product_logs n i a) k 0 < 255)
unfolding product_logs product
logs_from zero i a h b e k l = absurd (omega arith)
logs_from (suc n) i a h b e zero l = (e ∙ ap product (let q : i ≡ i + 0 = omega arith in q), b)
logs_from (suc zero) i a h b e (suc k) l = absurd (omega arith)
logs_from (suc (suc n)) i a h b e (suc k) l =
    let r = logs_from (suc n) (suc i) ((a + logarithm (gexp (suc i) ⊕ 1)) % 255) (omega arith) (omega arith)
    (exp_mod (a + logarithm (gexp (suc i) ⊕ 1)) ∙ sym (exp_mul a (logarithm (gexp (suc i) ⊕ 1))) ∙ ap₂ ◌⊗◌ e (factor_log i (omega arith))) k (omega arith) in
    (r.0 ∙ ap product (let q : suc i + k ≡ i + suc k = omega arith in q), r.1)

pub product_log_lem : (k : ℕ) → k < 255 → gexp (get_or (product_logs 255 0 0) k 0) ≡ product k
unfolding product
product_log_lem k h = (logs_from 255 0 0 (omega arith) (omega arith) exp_zero k h).0 ∙ ap product (let q : 0 + k ≡ k = omega arith in q)

pub product_log_lt : (k : ℕ) → k < 255 → get_or (product_logs 255 0 0) k 0 < 255
unfolding product
product_log_lt k h = (logs_from 255 0 0 (omega arith) (omega arith) exp_zero k h).1

-- ---- weights
-- 0 + 1 + .. + (e - 1)
unfoldable pub triangle : ℕ → ℕ
triangle zero = 0
triangle (suc e) = triangle e + e

weight_product : (e m : ℕ) → weight e (m + e) ⊗ product m ≡ gexp (triangle e) ⊗ product (m + e)
unfolding weight triangle product
weight_product zero m = ap₂ ◌⊗◌ (sym exp_zero) (ap product (let q : m ≡ m + 0 = omega arith in q))
weight_product (suc e) m =
    ap (λ (y : ℕ). (weight e (m + suc e) ⊗ y) ⊗ product m) apart
    ∙ turn (weight e (m + suc e)) (gexp e) (gexp (suc m) ⊕ 1) (product m)
    ∙ ap (λ (y : ℕ). gexp e ⊗ y) (ap (λ (i : ℕ). weight e i ⊗ product (suc m)) (let q : m + suc e ≡ suc m + e = omega arith in q) ∙ weight_product e (suc m))
    ∙ sym (mul_assoc (gexp e) (gexp (triangle e)) (product (suc m + e)))
    ∙ ap₂ ◌⊗◌ (exp_mul e (triangle e) ∙ ap gexp (N.add_comm e (triangle e))) (ap product (let q : suc m + e ≡ m + suc e = omega arith in q))
  where
    apart : gexp (m + suc e) ⊕ gexp e ≡ gexp e ⊗ (gexp (suc m) ⊕ 1)
    apart =
        ap₂ ◌⊕◌ (ap gexp (let q : m + suc e ≡ e + suc m = omega arith in q) ∙ sym (exp_mul e (suc m))) (sym (mul_one (gexp e) (exp_lt e)))
        ∙ sym (mul_add (gexp e) (gexp (suc m)) 1)

    turn : (w g f p : ℕ) → (w ⊗ (g ⊗ f)) ⊗ p ≡ g ⊗ (w ⊗ (p ⊗ f))
    turn w g f p = simp (mul_assoc, mul_comm, mul_left_comm)

pub weight_log_lem : (e m a b : ℕ) → gexp a ≡ product (m + e) → gexp b ≡ product m → b ≤ 255 → gexp ((triangle e + a + 255 - b) % 255) ≡ weight e (m + e)
weight_log_lem e m a b ea eb hb =
    exp_mod (triangle e + a + 255 - b) ∙ ap gexp (let q : triangle e + a + 255 - b ≡ (triangle e + a) + (255 - b) = omega arith in q)
    ∙ sym (exp_mul (triangle e + a) (255 - b)) ∙ ap (λ (y : ℕ). y ⊗ gexp (255 - b)) (sym (exp_mul (triangle e) a) ∙ ap (λ (y : ℕ). gexp (triangle e) ⊗ y) ea ∙ sym (weight_product e m))
    ∙ mul_assoc (weight e (m + e)) (product m) (gexp (255 - b))
    ∙ ap (λ (y : ℕ). weight e (m + e) ⊗ y) (ap (λ (y : ℕ). y ⊗ gexp (255 - b)) (sym eb) ∙ exp_mul b (255 - b) ∙ ap gexp (let q : b + (255 - b) ≡ 255 = omega arith in q) ∙ exp_255)
    ∙ mul_one (weight e (m + e)) (weight_lt e (m + e))
