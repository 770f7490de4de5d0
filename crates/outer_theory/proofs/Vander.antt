-- As many power sums as there are numbers that are not 0 cannot all vanish.
-- Assumes nothing.
use Rattle.std.proofs.Common.{◌≡◌, ℕ, zero, suc, ◌<◌, ◌≤◌, sym, refl, ap, ◌∙◌, subst, inl, inr, le_refl, le_of_suc-le-suc, not-suc-le-zero, eq-or-lt_of_le, arith}
use native.Mathlib.Nat.{le_step}
use Rattle.field.specs.Field.{◌⊕◌, ◌⊗◌, gpow}
use Rattle.field.proofs.Field.{add_zero, add_lt, mul_assoc, mul_comm, mul_left_comm, mul_add, add_mul, mul_lt, zero_mul, mul_one, no_divisors}
use Rattle.outer_theory.specs.Sums.{sum, count, one_if}
use Rattle.field.proofs.Powers.{same_if_zero, zero_if_same, pow_suc, pow_zero}
use Rattle.outer_theory.proofs.Sums.{sum_suc, sum_same, sum_none, sum_add, sum_mul, count_le, count_suc}

-- the step: the sum of f k * (x k + a) * (x k)^j from two power sums
pub step : (n a j : ℕ) (f x : ℕ → ℕ) → sum n (λ k. (f k ⊗ (x k ⊕ a)) ⊗ gpow (x k) j) ≡ sum n (λ k. f k ⊗ gpow (x k) (suc j)) ⊕ (a ⊗ sum n (λ k. f k ⊗ gpow (x k) j))
step n a j f x =
    sum_same n (λ k. (f k ⊗ (x k ⊕ a)) ⊗ gpow (x k) j) (λ k. (f k ⊗ gpow (x k) (suc j)) ⊕ (a ⊗ (f k ⊗ gpow (x k) j))) (λ k l. one (f k) (x k) (gpow (x k) j) ∙ ap (λ (y : ℕ). (f k ⊗ y) ⊕ (a ⊗ (f k ⊗ gpow (x k) j))) (sym (pow_suc (x k) j)))
    ∙ sum_add n (λ k. f k ⊗ gpow (x k) (suc j)) (λ k. a ⊗ (f k ⊗ gpow (x k) j))
    ∙ ap (λ (y : ℕ). sum n (λ k. f k ⊗ gpow (x k) (suc j)) ⊕ y) (sum_mul n a (λ k. f k ⊗ gpow (x k) j))
  where
    one : (u y p : ℕ) → (u ⊗ (y ⊕ a)) ⊗ p ≡ (u ⊗ (y ⊗ p)) ⊕ (a ⊗ (u ⊗ p))
    one u y p = simp (mul_add, add_mul, mul_assoc, mul_comm, mul_left_comm)

abbrev pub Vander : ℕ → Type 0
Vander n =
    (m : ℕ) (f x : ℕ → ℕ) → ((k : ℕ) → k < n → f k < 256) → ((k : ℕ) → k < n → x k < 256)
    → ((i k : ℕ) → i < k → k < n → x i ≡ x k → ⊥)
    → ((j : ℕ) → j < m → sum n (λ k. f k ⊗ gpow (x k) j) ≡ 0) → count n f ≤ m → (k : ℕ) → k < n → f k ≡ 0

-- what holds below n and at n holds below n + 1
below_suc : (P : ℕ → Type 0) (n : ℕ) → ((k : ℕ) → k < n → P k) → P n → (k : ℕ) → k < suc n → P k
below_suc P n h p k l =
    elim (eq-or-lt_of_le (le_of_suc-le-suc l)) [ inl e ↦ subst P (sym e) p | inr b ↦ h k b ]

module _ (n : ℕ) (ih : Vander n) (f x : ℕ → ℕ) (hf : (k : ℕ) → k < suc n → f k < 256) (hx : (k : ℕ) → k < suc n → x k < 256)
    (apart : (i k : ℕ) → i < k → k < suc n → x i ≡ x k → ⊥) where
  Sums : ℕ → Type 0
  Sums m = (j : ℕ) → j < m → sum (suc n) (λ k. f k ⊗ gpow (x k) j) ≡ 0

  last_zero : f n ≡ 0 → (m : ℕ) → Sums m → count (suc n) f ≤ m → (k : ℕ) → k < n → f k ≡ 0
  unfolding Sums
  last_zero e m s c =
      ih m f x (λ k l. hf k (le_step l)) (λ k l. hx k (le_step l)) (λ i k h l. apart i k h (le_step l))
      (λ j l. sym (add_zero (sum n (λ k. f k ⊗ gpow (x k) j))) ∙ ap (λ (y : ℕ). sum n (λ k. f k ⊗ gpow (x k) j) ⊕ y) (sym (ap (λ (y : ℕ). y ⊗ gpow (x n) j) e ∙ zero_mul (gpow (x n) j)))
      ∙ sym (sum_suc n (λ k. f k ⊗ gpow (x k) j)) ∙ s j l)
      (omega (arith, count_suc n f))

  last_not : (a : ℕ) → f n ≡ suc a → (m : ℕ) → Sums (suc m) → count (suc n) f ≤ suc m → (k : ℕ) → k < n → f k ≡ 0
  unfolding Sums
  last_not a e m s c k l =
      no_divisors (x k ⊕ x n) (f k) (add_lt (x k) (x n) (hx k (le_step l)) (hx n (le_refl (suc n)))) (hf k (le_step l))
      (mul_comm (x k ⊕ x n) (f k) ∙ rest k l)
      (λ z. apart k n l (le_refl (suc n)) (same_if_zero (x k) (x n) z))
    where
      part : (j : ℕ) → j < suc m → sum n (λ k. f k ⊗ gpow (x k) j) ≡ f n ⊗ gpow (x n) j
      part j h = same_if_zero (sum n (λ k. f k ⊗ gpow (x k) j)) (f n ⊗ gpow (x n) j) (sym (sum_suc n (λ k. f k ⊗ gpow (x k) j)) ∙ s j h)

      gone : (j : ℕ) → j < m → sum n (λ k. (f k ⊗ (x k ⊕ x n)) ⊗ gpow (x k) j) ≡ 0
      gone j h =
          step n (x n) j f x
          ∙ zero_if_same (sum n (λ k. f k ⊗ gpow (x k) (suc j))) (x n ⊗ sum n (λ k. f k ⊗ gpow (x k) j))
          (part (suc j) (omega arith) ∙ ap (λ (y : ℕ). f n ⊗ y) (pow_suc (x n) j) ∙ mul_left_comm (f n) (x n) (gpow (x n) j)
          ∙ sym (ap (λ (y : ℕ). x n ⊗ y) (part j (omega arith))))

      fewer : count n (λ k. f k ⊗ (x k ⊕ x n)) ≤ m
      fewer =
          let q : one_if (f n) ≡ 1 = ap one_if e in
          omega (arith, count_suc n f, count_le n f (λ k. f k ⊗ (x k ⊕ x n)) (λ k h z. ap (λ (y : ℕ). y ⊗ (x k ⊕ x n)) z ∙ zero_mul (x k ⊕ x n)))

      rest : (k : ℕ) → k < n → f k ⊗ (x k ⊕ x n) ≡ 0
      rest =
          ih m (λ k. f k ⊗ (x k ⊕ x n)) x (λ k h. mul_lt (f k) (x k ⊕ x n)) (λ k h. hx k (le_step h)) (λ i k h b. apart i k h (le_step b)) gone fewer

  last : (m : ℕ) → Sums (suc m) → ((k : ℕ) → k < n → f k ≡ 0) → f n ≡ 0
  unfolding Sums
  last m s h =
      sym (mul_one (f n) (hf n (le_refl (suc n)))) ∙ ap (λ (y : ℕ). f n ⊗ y) (sym (pow_zero (x n)))
      ∙ sym (same_if_zero (sum n (λ k. f k ⊗ gpow (x k) 0)) (f n ⊗ gpow (x n) 0) (sym (sum_suc n (λ k. f k ⊗ gpow (x k) 0)) ∙ s 0 (omega arith)))
      ∙ sum_none n (λ k. f k ⊗ gpow (x k) 0) (λ k l. ap (λ (y : ℕ). y ⊗ gpow (x k) 0) (h k l) ∙ zero_mul (gpow (x k) 0))

  by_last : (a : ℕ) → f n ≡ a → (m : ℕ) → Sums m → count (suc n) f ≤ m → (k : ℕ) → k < suc n → f k ≡ 0
  by_last zero e m s c = below_suc (λ k. f k ≡ 0) n (last_zero e m s c) e
  by_last (suc a) e zero s c = absurd (let q : one_if (f n) ≡ 1 = ap one_if e in omega (arith, count_suc n f))
  by_last (suc a) e (suc m) s c = below_suc (λ k. f k ≡ 0) n (last_not a e m s c) (last m s (last_not a e m s c))

pub vander : (n : ℕ) → Vander n
unfolding Sums
vander zero m f x hf hx apart s c k l = absurd (not-suc-le-zero l)
vander (suc n) m f x hf hx apart s c k l = by_last n (vander n) f x hf hx apart (f n) refl m s c k l
