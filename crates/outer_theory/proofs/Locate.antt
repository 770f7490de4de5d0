-- What weighted power sums tell of the places where two words differ.
-- Assumes nothing.
use Rattle.std.proofs.Common.{◌≡◌, ℕ, suc, ◌+◌, ◌<◌, ◌≤◌, sym, ap, ◌∙◌, le_trans, arith}
use Rattle.field.specs.Field.{◌⊕◌, ◌⊗◌, gpow}
use Rattle.field.proofs.Field.{add_zero, add_lt, mul_assoc, mul_comm, mul_left_comm, add_mul, mul_lt, zero_mul, no_divisors}
use Rattle.outer_theory.specs.Sums.{sum, count}
use Rattle.field.proofs.Powers.{same_if_zero, zero_if_same, pow_add}
use Rattle.outer_theory.proofs.Sums.{sum_same, sum_add, sum_mul, sum_swap, sum_lt, count_le}
use Rattle.outer_theory.proofs.Vander.{vander}

-- the power sum j of f with locators x and weights v
unfoldable pub moment : ℕ → (ℕ → ℕ) → (ℕ → ℕ) → (ℕ → ℕ) → ℕ → ℕ
moment n x v f j = sum n (λ k. (f k ⊗ v k) ⊗ gpow (x k) j)

module _ (n : ℕ) (x v : ℕ → ℕ) where
  pub moment_add : (f g : ℕ → ℕ) (j : ℕ) → moment n x v (λ k. f k ⊕ g k) j ≡ moment n x v f j ⊕ moment n x v g j
  unfolding moment
  moment_add f g j =
      sum_same n (λ k. ((f k ⊕ g k) ⊗ v k) ⊗ gpow (x k) j) (λ k. ((f k ⊗ v k) ⊗ gpow (x k) j) ⊕ ((g k ⊗ v k) ⊗ gpow (x k) j))
      (λ k l. ap (λ (y : ℕ). y ⊗ gpow (x k) j) (add_mul (f k) (g k) (v k)) ∙ add_mul (f k ⊗ v k) (g k ⊗ v k) (gpow (x k) j))
      ∙ sum_add n (λ k. (f k ⊗ v k) ⊗ gpow (x k) j) (λ k. (g k ⊗ v k) ⊗ gpow (x k) j)

  pub moment_same : (f g : ℕ → ℕ) → ((k : ℕ) → k < n → f k ≡ g k) → (j : ℕ) → moment n x v f j ≡ moment n x v g j
  unfolding moment
  moment_same f g h j = sum_same n (λ k. (f k ⊗ v k) ⊗ gpow (x k) j) (λ k. (g k ⊗ v k) ⊗ gpow (x k) j) (λ k l. ap (λ (y : ℕ). (y ⊗ v k) ⊗ gpow (x k) j) (h k l))

-- the polynomial with the coefficients a 0, .., a (d - 1)
unfoldable pub poly : ℕ → (ℕ → ℕ) → ℕ → ℕ
poly d a y = sum d (λ l. a l ⊗ gpow y l)

-- a combination of power sums is a power sum with weights
combined : (n d j : ℕ) (a e x : ℕ → ℕ) → sum d (λ l. a l ⊗ sum n (λ k. e k ⊗ gpow (x k) (j + l))) ≡ sum n (λ k. (e k ⊗ poly d a (x k)) ⊗ gpow (x k) j)
unfolding poly
combined n d j a e x =
    sum_same d (λ l. a l ⊗ sum n (λ k. e k ⊗ gpow (x k) (j + l))) (λ l. sum n (λ k. a l ⊗ (e k ⊗ gpow (x k) (j + l))))
    (λ l m. sym (sum_mul n (a l) (λ k. e k ⊗ gpow (x k) (j + l))))
    ∙ sum_swap d n (λ l k. a l ⊗ (e k ⊗ gpow (x k) (j + l)))
    ∙ sum_same n (λ k. sum d (λ l. a l ⊗ (e k ⊗ gpow (x k) (j + l)))) (λ k. (e k ⊗ sum d (λ l. a l ⊗ gpow (x k) l)) ⊗ gpow (x k) j)
    (λ k m. sum_same d (λ l. a l ⊗ (e k ⊗ gpow (x k) (j + l))) (λ l. (e k ⊗ gpow (x k) j) ⊗ (a l ⊗ gpow (x k) l))
    (λ l m. ap (λ (y : ℕ). a l ⊗ (e k ⊗ y)) (pow_add (x k) j l) ∙ turn (a l) (e k) (gpow (x k) j) (gpow (x k) l))
    ∙ sum_mul d (e k ⊗ gpow (x k) j) (λ l. a l ⊗ gpow (x k) l)
    ∙ mul_assoc (e k) (gpow (x k) j) (sum d (λ l. a l ⊗ gpow (x k) l))
    ∙ ap (λ (y : ℕ). e k ⊗ y) (mul_comm (gpow (x k) j) (sum d (λ l. a l ⊗ gpow (x k) l)))
    ∙ sym (mul_assoc (e k) (sum d (λ l. a l ⊗ gpow (x k) l)) (gpow (x k) j)))
  where
    turn : (a e p q : ℕ) → a ⊗ (e ⊗ (p ⊗ q)) ≡ (e ⊗ p) ⊗ (a ⊗ q)
    turn a e p q = simp (mul_assoc, mul_comm, mul_left_comm)

poly_below : (d : ℕ) (a : ℕ → ℕ) (y : ℕ) → poly d a y < 256
unfolding poly
poly_below d a y = sum_lt d (λ l. a l ⊗ gpow y l) (λ l m. mul_lt (a l) (gpow y l))

pub sums_of_error : (n : ℕ) (x v r c : ℕ → ℕ) (j : ℕ) → moment n x v c j ≡ 0 → moment n x v r j ≡ sum n (λ k. ((r k ⊕ c k) ⊗ v k) ⊗ gpow (x k) j)
unfolding moment
sums_of_error n x v r c j e = sym (add_zero (moment n x v r j)) ∙ ap (λ (y : ℕ). moment n x v r j ⊕ y) (sym e) ∙ sym (moment_add n x v r c j)

module _ (n : ℕ) (x v : ℕ → ℕ) (hx : (k : ℕ) → k < n → x k < 256) (apart : (i k : ℕ) → i < k → k < n → x i ≡ x k → ⊥)
    (hv : (k : ℕ) → k < n → v k < 256) (nv : (k : ℕ) → k < n → v k ≡ 0 → ⊥) where
  unweigh : (k : ℕ) → k < n → (a : ℕ) → a < 256 → a ⊗ v k ≡ 0 → a ≡ 0
  unweigh k l a h e = no_divisors (v k) a (hv k l) h (mul_comm (v k) a ∙ e) (nv k l)

  -- two words with the same sums that differ in few places are one
  pub unique : (t : ℕ) (f g : ℕ → ℕ) → ((k : ℕ) → k < n → f k < 256) → ((k : ℕ) → k < n → g k < 256)
      → ((j : ℕ) → j < t → moment n x v f j ≡ moment n x v g j) → count n (λ k. f k ⊕ g k) ≤ t → (k : ℕ) → k < n → f k ≡ g k
  unfolding moment
  unique t f g hf hg s c k l =
      same_if_zero (f k) (g k)
      (unweigh k l (f k ⊕ g k) (add_lt (f k) (g k) (hf k l) (hg k l))
      (vander n t (λ i. (f i ⊕ g i) ⊗ v i) x (λ i m. mul_lt (f i ⊕ g i) (v i)) hx apart
      (λ j m. moment_add n x v f g j ∙ zero_if_same (moment n x v f j) (moment n x v g j) (s j m))
      (le_trans (count_le n (λ i. f i ⊕ g i) (λ i. (f i ⊕ g i) ⊗ v i) (λ i m z. ap (λ (y : ℕ). y ⊗ v i) z ∙ zero_mul (v i))) c) k l))

  -- where a word differs from one whose sums vanish, a combination that makes the sums vanish has a root
  pub located : (t : ℕ) (r c a : ℕ → ℕ) → ((k : ℕ) → k < n → r k < 256) → ((k : ℕ) → k < n → c k < 256)
      → ((j : ℕ) → j < t + t → moment n x v c j ≡ 0) → count n (λ k. r k ⊕ c k) ≤ t
      → ((j : ℕ) → j < t → sum (suc t) (λ l. a l ⊗ moment n x v r (j + l)) ≡ 0)
      → (k : ℕ) → k < n → (r k ⊕ c k ≡ 0 → ⊥) → poly (suc t) a (x k) ≡ 0
  located t r c a hr hc s few comb k l differs =
      no_divisors (E k) (poly (suc t) a (x k)) (mul_lt (r k ⊕ c k) (v k)) (poly_lt (x k)) (gone k l)
      (λ z. differs (unweigh k l (r k ⊕ c k) (add_lt (r k) (c k) (hr k l) (hc k l)) z))
    where
      E : ℕ → ℕ
      E k = (r k ⊕ c k) ⊗ v k

      poly_lt : (y : ℕ) → poly (suc t) a y < 256
      poly_lt y = poly_below (suc t) a y

      of_error : (j : ℕ) → j < t + t → moment n x v r j ≡ sum n (λ k. E k ⊗ gpow (x k) j)
      of_error j h = sums_of_error n x v r c j (s j h)

      gone : (k : ℕ) → k < n → E k ⊗ poly (suc t) a (x k) ≡ 0
      gone =
          vander n t (λ k. E k ⊗ poly (suc t) a (x k)) x (λ k m. mul_lt (E k) (poly (suc t) a (x k))) hx apart
          (λ j m. sym (combined n (suc t) j a E x)
          ∙ sum_same (suc t) (λ l. a l ⊗ sum n (λ k. E k ⊗ gpow (x k) (j + l))) (λ l. a l ⊗ moment n x v r (j + l)) (λ l h. ap (λ (y : ℕ). a l ⊗ y) (sym (of_error (j + l) (omega arith))))
          ∙ comb j m)
          (le_trans (count_le n (λ k. r k ⊕ c k) (λ k. E k ⊗ poly (suc t) a (x k))
          (λ k m z. ap (λ (y : ℕ). (y ⊗ v k) ⊗ poly (suc t) a (x k)) z ∙ ap (λ (y : ℕ). y ⊗ poly (suc t) a (x k)) (zero_mul (v k)) ∙ zero_mul (poly (suc t) a (x k)))) few)
