-- Laws of sums and of counts.
-- Assumes nothing.
use Rattle.std.proofs.Common.{◌≡◌, ℕ, zero, suc, ◌+◌, ◌-◌, ◌<◌, ◌≤◌, sym, refl, ap, ◌∙◌, ap₂, le_trans, le_refl, suc-add, add-one, arith}
use native.Mathlib.Nat.{le_step}
use native.Mathlib.Decide.{dec_le}
use native.Mathlib.Nat as N
use Rattle.field.specs.Field.{◌⊕◌, ◌⊗◌}
use Rattle.field.proofs.Field.{add_assoc, add_comm, add_zero, zero_add, add_lt, add_swap, mul_add, mul_zero}
use Rattle.field.proofs.Powers.{same_if_zero, zero_if_same}
use Rattle.outer_theory.specs.Sums.{sum, count, one_if}

-- how many of f 0, .., f (n - 1) are 0
abbrev pub one_if_zero : ℕ → ℕ
one_if_zero zero = 1
one_if_zero (suc a) = 0

unfoldable pub zeros : ℕ → (ℕ → ℕ) → ℕ
zeros zero f = 0
zeros (suc n) f = zeros n f + one_if_zero (f n)

-- ---- sums
pub sum_suc : (n : ℕ) (f : ℕ → ℕ) → sum (suc n) f ≡ sum n f ⊕ f n
unfolding sum
sum_suc n f = refl

pub sum_same : (n : ℕ) (f g : ℕ → ℕ) → ((k : ℕ) → k < n → f k ≡ g k) → sum n f ≡ sum n g
unfolding sum
sum_same zero f g h = refl
sum_same (suc n) f g h = ap₂ ◌⊕◌ (sum_same n f g (λ k l. h k (le_step l))) (h n (le_refl (suc n)))

pub sum_none : (n : ℕ) (f : ℕ → ℕ) → ((k : ℕ) → k < n → f k ≡ 0) → sum n f ≡ 0
unfolding sum
sum_none zero f h = refl
sum_none (suc n) f h = ap₂ ◌⊕◌ (sum_none n f (λ k l. h k (le_step l))) (h n (le_refl (suc n))) ∙ add_zero 0

pub sum_add : (n : ℕ) (f g : ℕ → ℕ) → sum n (λ k. f k ⊕ g k) ≡ sum n f ⊕ sum n g
unfolding sum
sum_add zero f g = sym (add_zero 0)
sum_add (suc n) f g = ap (λ (x : ℕ). x ⊕ (f n ⊕ g n)) (sum_add n f g) ∙ add_swap (sum n f) (sum n g) (f n) (g n)

pub sum_mul : (n c : ℕ) (f : ℕ → ℕ) → sum n (λ k. c ⊗ f k) ≡ c ⊗ sum n f
unfolding sum
sum_mul zero c f = sym (mul_zero c)
sum_mul (suc n) c f = ap (λ (x : ℕ). x ⊕ (c ⊗ f n)) (sum_mul n c f) ∙ sym (mul_add c (sum n f) (f n))

pub sum_join : (n e : ℕ) (f : ℕ → ℕ) → sum (n + e) f ≡ sum e f ⊕ sum n (λ k. f (k + e))
unfolding sum
sum_join zero e f = ap (λ (x : ℕ). sum x f) (N.zero-add e) ∙ sym (add_zero (sum e f))
sum_join (suc n) e f =
    ap (λ (x : ℕ). sum x f) (suc-add n e) ∙ ap (λ (x : ℕ). x ⊕ f (n + e)) (sum_join n e f)
    ∙ add_assoc (sum e f) (sum n (λ k. f (k + e))) (f (n + e))

pub sum_lt : (n : ℕ) (f : ℕ → ℕ) → ((k : ℕ) → k < n → f k < 256) → sum n f < 256
unfolding sum
sum_lt zero f h = omega arith
sum_lt (suc n) f h = add_lt (sum n f) (f n) (sum_lt n f (λ k l. h k (le_step l))) (h n (le_refl (suc n)))

-- a sum of sums, in the other order
pub sum_swap : (m n : ℕ) (f : ℕ → ℕ → ℕ) → sum m (λ i. sum n (λ k. f i k)) ≡ sum n (λ k. sum m (λ i. f i k))
unfolding sum
sum_swap zero n f = sym (sum_none n (λ k. 0) (λ k l. refl))
sum_swap (suc m) n f = ap (λ (x : ℕ). x ⊕ sum n (f m)) (sum_swap m n f) ∙ sym (sum_add n (λ k. sum m (λ i. f i k)) (f m))

-- ---- counts
pub count_le : (n : ℕ) (f g : ℕ → ℕ) → ((k : ℕ) → k < n → f k ≡ 0 → g k ≡ 0) → count n g ≤ count n f
unfolding count
count_le zero f g h = omega arith
count_le (suc n) f g h =
    omega (arith, count_le n f g (λ k l. h k (le_step l)), at (f n) (g n) (h n (le_refl (suc n))))
  where
    at : (a b : ℕ) → (a ≡ 0 → b ≡ 0) → one_if b ≤ one_if a
    at zero zero p = omega arith
    at zero (suc b) p = absurd (let z = p refl in omega arith)
    at (suc a) zero p = omega arith
    at (suc a) (suc b) p = omega arith

pub count_suc : (n : ℕ) (f : ℕ → ℕ) → count (suc n) f ≡ count n f + one_if (f n)
unfolding count
count_suc n f = refl

pub sum_front : (n : ℕ) (f : ℕ → ℕ) → sum (suc n) f ≡ f 0 ⊕ sum n (λ k. f (suc k))
unfolding sum
sum_front zero f = zero_add (f 0) ∙ sym (add_zero (f 0))
sum_front (suc n) f = ap (λ (x : ℕ). x ⊕ f (suc n)) (sum_front n f) ∙ add_assoc (f 0) (sum n (λ k. f (suc k))) (f (suc n))

pub sum_reverse : (n : ℕ) (f : ℕ → ℕ) → sum n (λ k. f (n - 1 - k)) ≡ sum n f
unfolding sum
sum_reverse zero f = refl
sum_reverse (suc n) f =
    sum_front n (λ k. f (suc n - 1 - k))
    ∙ ap₂ ◌⊕◌ (ap f (first n)) (sum_same n (λ k. f (suc n - 1 - suc k)) (λ k. f (n - 1 - k)) (λ k l. ap f (next n k)) ∙ sum_reverse n f)
    ∙ add_comm (f n) (sum n f)
  where
    first : (n : ℕ) → suc n - 1 - 0 ≡ n
    first n = omega arith

    next : (n k : ℕ) → suc n - 1 - suc k ≡ n - 1 - k
    next n k = omega arith

count_le_all : (n : ℕ) (f : ℕ → ℕ) → count n f ≤ n
unfolding count
count_le_all zero f = omega arith
count_le_all (suc n) f = omega (arith, count_le_all n f, at (f n))
  where
    at : (a : ℕ) → one_if a ≤ 1
    at zero = omega arith
    at (suc a) = omega arith

pub count_low : (n t : ℕ) (f : ℕ → ℕ) → ((k : ℕ) → t ≤ k → k < n → f k ≡ 0) → count n f ≤ t
unfolding count
count_low zero t f h = omega arith
count_low (suc n) t f h =
    elim (dec_le t n) [
      | yes g ↦ (let q : one_if (f n) ≡ 0 = ap one_if (h n g (le_refl (suc n))) in omega (arith, count_low n t f (λ k a l. h k a (le_step l))))
      | no g ↦ le_trans (count_le_all (suc n) f) (omega arith)
    ]

pub count_triangle : (n : ℕ) (f g r : ℕ → ℕ) → count n (λ k. f k ⊕ g k) ≤ count n (λ k. r k ⊕ f k) + count n (λ k. r k ⊕ g k)
unfolding count
count_triangle zero f g r = omega arith
count_triangle (suc n) f g r = omega (arith, count_triangle n f g r, at (r n ⊕ f n) refl (r n ⊕ g n) refl)
  where
    at : (a : ℕ) → r n ⊕ f n ≡ a → (b : ℕ) → r n ⊕ g n ≡ b → one_if (f n ⊕ g n) ≤ one_if (r n ⊕ f n) + one_if (r n ⊕ g n)
    at zero p zero q =
        let z : one_if (f n ⊕ g n) ≡ 0 = ap one_if (zero_if_same (f n) (g n) (sym (same_if_zero (r n) (f n) p) ∙ same_if_zero (r n) (g n) q)) in
        omega arith
    at (suc a) p b q = let z : one_if (r n ⊕ f n) ≡ 1 = ap one_if p in omega (arith, most (f n ⊕ g n))
      where
        most : (a : ℕ) → one_if a ≤ 1
        most zero = omega arith
        most (suc a) = omega arith
    at zero p (suc b) q = let z : one_if (r n ⊕ g n) ≡ 1 = ap one_if q in omega (arith, most (f n ⊕ g n))
      where
        most : (a : ℕ) → one_if a ≤ 1
        most zero = omega arith
        most (suc a) = omega arith

pub count_all : (n : ℕ) (f : ℕ → ℕ) → ((k : ℕ) → k < n → f k ≡ 1) → count n f ≡ n
unfolding count
count_all zero f h = refl
count_all (suc n) f h =
    let q : one_if (f n) ≡ 1 = ap one_if (h n (le_refl (suc n))) in
    let p = count_all n f (λ k l. h k (le_step l)) in omega arith

pub count_none : (n : ℕ) (f : ℕ → ℕ) → ((k : ℕ) → k < n → f k ≡ 0) → count n f ≡ 0
unfolding count
count_none zero f h = refl
count_none (suc n) f h =
    let q : one_if (f n) ≡ 0 = ap one_if (h n (le_refl (suc n))) in
    let p = count_none n f (λ k l. h k (le_step l)) in omega arith

pub count_yes : (n c : ℕ) (f : ℕ → ℕ) → c ≡ count n f → (f n ≡ 0 → ⊥) → c + 1 ≡ count (n + 1) f
unfolding count
count_yes n c f e z = ap₂ ◌+◌ e (sym (one (f n) z)) ∙ ap (λ (m : ℕ). count m f) (sym (add-one n))
  where
    one : (a : ℕ) → (a ≡ 0 → ⊥) → one_if a ≡ 1
    one zero h = absurd (h refl)
    one (suc a) h = refl

pub count_no : (n c : ℕ) (f : ℕ → ℕ) → c ≡ count n f → f n ≡ 0 → c ≡ count (n + 1) f
unfolding count
count_no n c f e z = sym (N.add-zero c) ∙ ap₂ ◌+◌ e (sym (ap one_if z)) ∙ ap (λ (m : ℕ). count m f) (sym (add-one n))

pub count_start : (f : ℕ → ℕ) → 0 ≡ count 0 f
unfolding count
count_start f = refl
