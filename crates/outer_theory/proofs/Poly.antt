-- A polynomial that is not 0 has no more roots than its degree.
-- Assumes nothing.
use Rattle.std.proofs.Common.{◌≡◌, ℕ, zero, suc, ◌<◌, ◌≤◌, List, [], ◌∷◌, length, get_or, sym, refl, ap, ◌∙◌, ap₂, le_refl, arith}
use native.Mathlib.Nat.{le_step}
use Rattle.field.specs.Field.{◌⊕◌, ◌⊗◌, gpow}
use Rattle.field.proofs.Field.{add_comm, add_self, add_zero, zero_add, add_lt, add_swap, mul_left_comm, mul_add, add_mul, mul_lt, mul_zero, mul_one, no_divisors}
use Rattle.outer_theory.specs.Sums.{sum}
use Rattle.field.proofs.Powers.{same_if_zero, pow_zero, pow_suc}
use Rattle.outer_theory.proofs.Sums.{zeros, one_if_zero, sum_mul, sum_same, sum_front}

-- the value of a polynomial whose lowest coefficient stands first
unfoldable pub ev : List ℕ → ℕ → ℕ
ev [] y = 0
ev (c ∷ cs) y = c ⊕ (y ⊗ ev cs y)

-- (y * P y + a * P a) / (y + a)
quo : ℕ → List ℕ → List ℕ
quo a [] = []
quo a (b ∷ bs) = ev (b ∷ bs) a ∷ quo a bs

abbrev pub Zero : List ℕ → Type 0
Zero [] = Unit {0}
Zero (c ∷ cs) = (c ≡ 0) × Zero cs

cancel : (a b c : ℕ) → (c ⊕ a) ⊕ (c ⊕ b) ≡ a ⊕ b
cancel a b c = add_swap c a c b ∙ ap (λ (x : ℕ). x ⊕ (a ⊕ b)) (add_self c) ∙ zero_add (a ⊕ b)

quo_is : (a y : ℕ) (cs : List ℕ) → (y ⊗ ev cs y) ⊕ (a ⊗ ev cs a) ≡ (y ⊕ a) ⊗ ev (quo a cs) y
unfolding quo ev
quo_is a y [] = ap₂ ◌⊕◌ (mul_zero y) (mul_zero a) ∙ add_zero 0 ∙ sym (mul_zero (y ⊕ a))
quo_is a y (b ∷ bs) = by (ev bs y) (ev bs a) (ev (quo a bs) y) (quo_is a y bs)
  where
    by : (u w q : ℕ) → (y ⊗ u) ⊕ (a ⊗ w) ≡ (y ⊕ a) ⊗ q → (y ⊗ (b ⊕ (y ⊗ u))) ⊕ (a ⊗ (b ⊕ (a ⊗ w))) ≡ (y ⊕ a) ⊗ ((b ⊕ (a ⊗ w)) ⊕ (y ⊗ q))
    by u w q e =
        let m : ℕ = b ⊕ (a ⊗ w) in
        let p : ℕ = b ⊕ (y ⊗ u) in
        let r : (y ⊕ a) ⊗ (y ⊗ q) ≡ (y ⊗ p) ⊕ (y ⊗ m) =
        mul_left_comm (y ⊕ a) y q ∙ ap (λ (z : ℕ). y ⊗ z) (sym e ∙ sym (cancel (y ⊗ u) (a ⊗ w) b)) ∙ mul_add y p m in
        sym (mul_add (y ⊕ a) m (y ⊗ q) ∙ ap₂ ◌⊕◌ (add_mul y a m) r ∙ add_swap (y ⊗ m) (a ⊗ m) (y ⊗ p) (y ⊗ m)
        ∙ ap (λ (z : ℕ). z ⊕ ((a ⊗ m) ⊕ (y ⊗ m))) (add_comm (y ⊗ m) (y ⊗ p))
        ∙ add_swap (y ⊗ p) (y ⊗ m) (a ⊗ m) (y ⊗ m) ∙ ap (λ (z : ℕ). ((y ⊗ p) ⊕ (a ⊗ m)) ⊕ z) (add_self (y ⊗ m)) ∙ add_zero ((y ⊗ p) ⊕ (a ⊗ m)))

-- a polynomial with the root a is y + a times its quotient
root_is : (a y c : ℕ) (cs : List ℕ) → ev (c ∷ cs) a ≡ 0 → ev (c ∷ cs) y ≡ (y ⊕ a) ⊗ ev (quo a cs) y
unfolding ev
root_is a y c cs e =
    sym (add_zero (c ⊕ (y ⊗ ev cs y))) ∙ ap (λ (z : ℕ). (c ⊕ (y ⊗ ev cs y)) ⊕ z) (sym e) ∙ cancel (y ⊗ ev cs y) (a ⊗ ev cs a) c ∙ quo_is a y cs

length_quo : (a : ℕ) (cs : List ℕ) → length (quo a cs) ≡ length cs
unfolding quo
length_quo a [] = refl
length_quo a (c ∷ cs) = ap suc (length_quo a cs)

quo_zero : (a c : ℕ) (cs : List ℕ) → ev (c ∷ cs) a ≡ 0 → Zero (quo a cs) → Zero (c ∷ cs)
unfolding quo ev
quo_zero a c [] e z = (sym (add_zero c) ∙ ap (λ (y : ℕ). c ⊕ y) (sym (mul_zero a)) ∙ e, tt)
quo_zero a c (b ∷ bs) e z =
    (sym (add_zero c) ∙ ap (λ (y : ℕ). c ⊕ y) (sym (ap (λ (y : ℕ). a ⊗ y) z.0 ∙ mul_zero a)) ∙ e, quo_zero a b bs z.0 z.1)

pub zeros_le : (n : ℕ) (f g : ℕ → ℕ) → ((k : ℕ) → k < n → f k ≡ 0 → g k ≡ 0) → zeros n f ≤ zeros n g
unfolding zeros
zeros_le zero f g h = omega arith
zeros_le (suc n) f g h =
    omega (arith, zeros_le n f g (λ k l. h k (le_step l)), at (f n) (g n) (h n (le_refl (suc n))))
  where
    at : (a b : ℕ) → (a ≡ 0 → b ≡ 0) → one_if_zero a ≤ one_if_zero b
    at zero zero p = omega arith
    at zero (suc b) p = absurd (let z = p refl in omega arith)
    at (suc a) zero p = omega arith
    at (suc a) (suc b) p = omega arith

abbrev pub AllBytes : List ℕ → Type 0
AllBytes [] = Unit {0}
AllBytes (c ∷ cs) = (c < 256) × AllBytes cs

ev_lt : (cs : List ℕ) (y : ℕ) → AllBytes cs → ev cs y < 256
unfolding ev
ev_lt [] y h = omega arith
ev_lt (c ∷ cs) y h = add_lt c (y ⊗ ev cs y) h.0 (mul_lt y (ev cs y))

quo_bytes : (a : ℕ) (cs : List ℕ) → AllBytes cs → AllBytes (quo a cs)
unfolding quo
quo_bytes a [] h = tt
quo_bytes a (c ∷ cs) h = (ev_lt (c ∷ cs) a h, quo_bytes a cs h.1)

abbrev pub Few : ℕ → (ℕ → ℕ) → Type 0
Few n x = (c : ℕ) (cs : List ℕ) → AllBytes (c ∷ cs) → (Zero (c ∷ cs) → ⊥) → zeros n (λ k. ev (c ∷ cs) (x k)) ≤ length cs

few_suc : (n : ℕ) (x : ℕ → ℕ) → ((k : ℕ) → k < suc n → x k < 256) → ((i k : ℕ) → i < k → k < suc n → x i ≡ x k → ⊥) → Few n x → Few (suc n) x
unfolding zeros quo
few_suc n x hx apart ih c cs hc nz = by (ev (c ∷ cs) (x n)) cs hc refl nz
  where
    by : (v : ℕ) (cs : List ℕ) → AllBytes (c ∷ cs) → ev (c ∷ cs) (x n) ≡ v → (Zero (c ∷ cs) → ⊥) → zeros (suc n) (λ k. ev (c ∷ cs) (x k)) ≤ length cs
    by (suc v) cs hc e nz =
        let q : one_if_zero (ev (c ∷ cs) (x n)) ≡ 0 = ap one_if_zero e in
        omega (arith, ih c cs hc nz)
    by zero [] hc e nz = absurd (nz (quo_zero (x n) c [] e tt))
    by zero (b ∷ bs) hc e nz =
        let q : one_if_zero (ev (c ∷ b ∷ bs) (x n)) ≡ 1 = ap one_if_zero e in
        let h = ih (ev (b ∷ bs) (x n)) (quo (x n) bs) (quo_bytes (x n) (b ∷ bs) hc.1) (λ z. nz (quo_zero (x n) c (b ∷ bs) e z)) in
        let l = length_quo (x n) bs in
        let s = zeros_le n (λ k. ev (c ∷ b ∷ bs) (x k)) (λ k. ev (quo (x n) (b ∷ bs)) (x k))
        (λ k m z. no_divisors (x k ⊕ x n) (ev (quo (x n) (b ∷ bs)) (x k)) (add_lt (x k) (x n) (hx k (le_step m)) (hx n (le_refl (suc n))))
        (ev_lt (quo (x n) (b ∷ bs)) (x k) (quo_bytes (x n) (b ∷ bs) hc.1))
        (sym (root_is (x n) (x k) c (b ∷ bs) e) ∙ z)
        (λ w. apart k n m (le_refl (suc n)) (same_if_zero (x k) (x n) w))) in
        omega arith

pub few_roots : (n : ℕ) (x : ℕ → ℕ) → ((k : ℕ) → k < n → x k < 256) → ((i k : ℕ) → i < k → k < n → x i ≡ x k → ⊥) → Few n x
unfolding zeros
few_roots zero x hx apart c cs hc nz = omega arith
few_roots (suc n) x hx apart c cs hc nz =
    few_suc n x hx apart (few_roots n x (λ k l. hx k (le_step l)) (λ i k h l. apart i k h (le_step l))) c cs hc nz

-- as a sum of powers
pub ev_sum : (cs : List ℕ) (y : ℕ) → AllBytes cs → ev cs y ≡ sum (length cs) (λ l. get_or cs l 0 ⊗ gpow y l)
unfolding ev sum
ev_sum [] y h = refl
ev_sum (c ∷ cs) y h =
    ap₂ ◌⊕◌ (sym (ap (λ (z : ℕ). c ⊗ z) (pow_zero y) ∙ mul_one c h.0))
    (ap (λ (z : ℕ). y ⊗ z) (ev_sum cs y h.1) ∙ sym (sum_mul (length cs) y (λ l. get_or cs l 0 ⊗ gpow y l))
    ∙ sum_same (length cs) (λ l. y ⊗ (get_or cs l 0 ⊗ gpow y l)) (λ l. get_or cs l 0 ⊗ gpow y (suc l))
    (λ l m. mul_left_comm y (get_or cs l 0) (gpow y l) ∙ ap (λ (z : ℕ). get_or cs l 0 ⊗ z) (sym (pow_suc y l))))
    ∙ sym (sum_front (length cs) (λ l. get_or (c ∷ cs) l 0 ⊗ gpow y l))
