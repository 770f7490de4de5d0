-- The syndromes of an outer word vanish.
-- Assumes nothing.
use Rattle.std.proofs.Common.{◌≡◌, ℕ, zero, suc, ◌+◌, ◌-◌, ◌<◌, ◌≤◌, Bool, ◌⊎◌, List, [], ◌∷◌, ◌++◌, reverse, length, get_or, take, sym, refl, ap, ◌∙◌, subst, ap₂, inl, inr, le_of_suc-le-suc, not-suc-le-zero, eq-or-lt_of_le, arith, le-ltb, lt-ltb}
use native.Mathlib.Decide.{dec_le}
use Rattle.std.proofs.lemmas.List.{reverse-append, length-append, length-reverse, length-take-le, get_or_append_left, get_or-append_right, get_or_at, get_or-reverse, get_or-take}
use Rattle.field.specs.Field.{◌⊕◌, ◌⊗◌, gexp, gpow}
use Rattle.field.proofs.Field.{add_comm, add_zero, zero_add, add_lt, mul_assoc, mul_comm, mul_left_comm, mul_lt, zero_mul, mul_zero, one_mul, no_divisors, exp_lt, exp_mul, exp_nonzero, exp_apart}
use Rattle.outer_theory.specs.Sums.{sum}
use Rattle.outer_code.specs.Outer.{evaluated, Vanishes}
use Rattle.words.specs.Words.{word}
use Rattle.outer_theory.specs.Syndromes.{pick, place, weight, syndrome}
use Rattle.field.proofs.Powers.{same_if_zero, zero_if_same, pow_lt, pow_mul, pow_nonzero, pow_exp_comm}
use Rattle.outer_theory.proofs.Sums.{sum_same, sum_none, sum_mul, sum_join, sum_lt, sum_reverse}
use Rattle.outer_theory.proofs.Vander.{step}

-- ---- tests
le_or_lt : (t k : ℕ) → (t ≤ k) ⊎ (k < t)
le_or_lt t k = elim (dec_le t k) [ yes h ↦ inl h | no h ↦ inr (omega arith) ]

-- ---- weights
pub weight_lt : (e i : ℕ) → weight e i < 256
unfolding weight
weight_lt zero i = omega arith
weight_lt (suc e) i = mul_lt (weight e i) (gexp i ⊕ gexp e)

weight_zero : (e i : ℕ) → i < e → weight e i ≡ 0
unfolding weight
weight_zero zero i h = absurd (not-suc-le-zero h)
weight_zero (suc e) i h =
    elim (eq-or-lt_of_le (le_of_suc-le-suc h)) [
      | inl q ↦ ap (λ (y : ℕ). weight e i ⊗ y) (zero_if_same (gexp i) (gexp e) (ap gexp q)) ∙ mul_zero (weight e i)
      | inr l ↦ ap (λ (y : ℕ). y ⊗ (gexp i ⊕ gexp e)) (weight_zero e i l) ∙ zero_mul (gexp i ⊕ gexp e)
    ]

pub weight_nonzero : (e i : ℕ) → e ≤ i → i < 255 → weight e i ≡ 0 → ⊥
unfolding weight
weight_nonzero zero i h l z = omega arith
weight_nonzero (suc e) i h l z =
    weight_nonzero e i (omega arith) l
    (no_divisors (gexp i ⊕ gexp e) (weight e i) (add_lt (gexp i) (gexp e) (exp_lt i) (exp_lt e)) (weight_lt e i) (mul_comm (gexp i ⊕ gexp e) (weight e i) ∙ z)
    (λ q. let s = exp_apart i e l (omega arith) (same_if_zero (gexp i) (gexp e) q) in omega arith))

-- ---- from the sixteen power sums to the weighted ones
module _ (n : ℕ) (f : ℕ → ℕ) (s : (j : ℕ) → j < 16 → sum n (λ i. f i ⊗ gpow (gexp i) j) ≡ 0) where
  weighted : (e j : ℕ) → j + e < 16 → sum n (λ i. (f i ⊗ weight e i) ⊗ gpow (gexp i) j) ≡ 0
  unfolding weight
  weighted zero j h =
      sum_same n (λ i. (f i ⊗ 1) ⊗ gpow (gexp i) j) (λ i. f i ⊗ gpow (gexp i) j)
      (λ i l. mul_assoc (f i) 1 (gpow (gexp i) j) ∙ ap (λ (y : ℕ). f i ⊗ y) (one_mul (gpow (gexp i) j) (pow_lt (gexp i) j)))
      ∙ s j (omega arith)
  weighted (suc e) j h =
      sum_same n (λ i. (f i ⊗ (weight e i ⊗ (gexp i ⊕ gexp e))) ⊗ gpow (gexp i) j) (λ i. ((f i ⊗ weight e i) ⊗ (gexp i ⊕ gexp e)) ⊗ gpow (gexp i) j)
      (λ i l. ap (λ (y : ℕ). y ⊗ gpow (gexp i) j) (sym (mul_assoc (f i) (weight e i) (gexp i ⊕ gexp e))))
      ∙ step n (gexp e) j (λ i. f i ⊗ weight e i) gexp
      ∙ ap₂ ◌⊕◌ (weighted e (suc j) (omega arith)) (ap (λ (y : ℕ). gexp e ⊗ y) (weighted e j (omega arith)) ∙ mul_zero (gexp e)) ∙ add_zero 0

punctured : (n e : ℕ) (f : ℕ → ℕ) → ((j : ℕ) → j < 16 → sum (n + e) (λ i. f i ⊗ gpow (gexp j) i) ≡ 0)
    → (j : ℕ) → j + e < 16 → sum n (λ m. (f (m + e) ⊗ weight e (m + e)) ⊗ gpow (gexp m) j) ≡ 0
punctured n e f s j h =
    no_divisors (gpow (gexp e) j) (sum n (λ m. (f (m + e) ⊗ weight e (m + e)) ⊗ gpow (gexp m) j)) (pow_lt (gexp e) j)
    (sum_lt n (λ m. (f (m + e) ⊗ weight e (m + e)) ⊗ gpow (gexp m) j) (λ m l. mul_lt (f (m + e) ⊗ weight e (m + e)) (gpow (gexp m) j)))
    (sym (sum_mul n (gpow (gexp e) j) (λ m. (f (m + e) ⊗ weight e (m + e)) ⊗ gpow (gexp m) j))
    ∙ sum_same n (λ m. gpow (gexp e) j ⊗ ((f (m + e) ⊗ weight e (m + e)) ⊗ gpow (gexp m) j)) (λ m. (f (m + e) ⊗ weight e (m + e)) ⊗ gpow (gexp (m + e)) j)
    (λ m l. mul_left_comm (gpow (gexp e) j) (f (m + e) ⊗ weight e (m + e)) (gpow (gexp m) j)
    ∙ ap (λ (y : ℕ). (f (m + e) ⊗ weight e (m + e)) ⊗ y) (sym (ap (λ (y : ℕ). gpow y j) (sym (exp_mul m e)) ∙ pow_mul (gexp m) (gexp e) j ∙ mul_comm (gpow (gexp m) j) (gpow (gexp e) j))))
    ∙ tail)
    (λ z. pow_nonzero (gexp e) (exp_lt e) (exp_nonzero e (omega arith)) j z)
  where
    F : ℕ → ℕ
    F i = (f i ⊗ weight e i) ⊗ gpow (gexp i) j

    tail : sum n (λ m. F (m + e)) ≡ 0
    tail =
        sym (zero_add (sum n (λ m. F (m + e))))
        ∙ ap (λ (y : ℕ). y ⊕ sum n (λ m. F (m + e)))
        (sym (sum_none e F (λ i l. ap (λ (y : ℕ). (f i ⊗ y) ⊗ gpow (gexp i) j) (weight_zero e i l) ∙ ap (λ (y : ℕ). y ⊗ gpow (gexp i) j) (mul_zero (f i)) ∙ zero_mul (gpow (gexp i) j))))
        ∙ sym (sum_join n e F)
        ∙ weighted (n + e) f (λ r l. sum_same (n + e) (λ i. f i ⊗ gpow (gexp i) r) (λ i. f i ⊗ gpow (gexp r) i) (λ i m. ap (λ (y : ℕ). f i ⊗ y) (pow_exp_comm i r)) ∙ s r l) e j h

-- ---- a value as a sum
evaluated_sum : (x : ℕ) (cs : List ℕ) → evaluated x cs ≡ sum (length cs) (λ i. get_or (reverse cs) i 0 ⊗ gpow x i)
unfolding evaluated sum
evaluated_sum x [] = refl
evaluated_sum x (c ∷ cs) =
    add_comm (c ⊗ gpow x (length cs)) (evaluated x cs)
    ∙ ap₂ ◌⊕◌
    (evaluated_sum x cs ∙ sum_same (length cs) (λ i. get_or (reverse cs) i 0 ⊗ gpow x i) (λ i. get_or (reverse (c ∷ cs)) i 0 ⊗ gpow x i)
    (λ i l. ap (λ (y : ℕ). y ⊗ gpow x i) (sym (ap (λ (zs : List ℕ). get_or zs i 0) rev ∙ get_or_append_left (reverse cs) (c ∷ []) 0 i (subst (λ (y : ℕ). i < y) (sym (length-reverse cs)) l)))))
    (ap (λ (y : ℕ). y ⊗ gpow x (length cs)) (sym (ap (λ (zs : List ℕ). get_or zs (length cs) 0) rev ∙ get_or_at (reverse cs) c [] 0 (length cs) (length-reverse cs))))
  where
    rev : reverse (c ∷ cs) ≡ reverse cs ++ c ∷ []
    rev = reverse-append (c ∷ []) cs

-- ---- the places of a block
pub place_low : (t n k : ℕ) → k < t → place t n k ≡ t - 1 - k
unfolding place
place_low t n k h = ap (λ (b : Bool). pick b (t - 1 - k) (n + t - 1 - k)) (lt-ltb k t h)

pub place_high : (t n k : ℕ) → t ≤ k → place t n k ≡ n + t - 1 - k
unfolding place
place_high t n k h = ap (λ (b : Bool). pick b (t - 1 - k) (n + t - 1 - k)) (le-ltb k t h)

pub place_lt : (t n k : ℕ) → t ≤ n → k < n → place t n k < n
place_lt t n k h l =
    elim (le_or_lt t k)
    [ inl g ↦ omega (arith, place_high t n k g) | inr g ↦ omega (arith, place_low t n k g) ]

pub place_apart : (t n i k : ℕ) → t ≤ n → i < k → k < n → place t n i ≡ place t n k → ⊥
place_apart t n i k h g l e =
    elim (le_or_lt t i) [
      | inl a ↦ omega (arith, place_high t n i a, place_high t n k (omega arith))
      | inr a ↦ elim (le_or_lt t k)
          [ inl b ↦ omega (arith, place_low t n i a, place_high t n k b) | inr b ↦ omega (arith, place_low t n i a, place_low t n k b) ]
    ]

-- a sum over a block, in the order of the powers
reorder : (size t : ℕ) (F : ℕ → ℕ) → sum (size + t) (λ k. F (place t (size + t) k)) ≡ sum (size + t) F
reorder size t F =
    sum_join size t (λ k. F (place t (size + t) k))
    ∙ ap₂ ◌⊕◌
    (sum_same t (λ k. F (place t (size + t) k)) (λ k. F (t - 1 - k)) (λ k l. ap F (place_low t (size + t) k l)) ∙ sum_reverse t F)
    (sum_same size (λ k. F (place t (size + t) (k + t))) (λ k. F (size - 1 - k + t))
    (λ k l. ap F (place_high t (size + t) (k + t) (omega arith) ∙ turned k l)) ∙ sum_reverse size (λ m. F (m + t)))
    ∙ sym (sum_join size t F)
  where
    turned : (k : ℕ) → k < size → size + t + t - 1 - (k + t) ≡ size - 1 - k + t
    turned k l = omega arith

-- the coefficients of message and parity, at the power that a byte of the block belongs to
coefficient : (t : ℕ) (d p : List ℕ) → t ≤ 16 → length p ≡ 16 → (k : ℕ) → k < length d + t
    → get_or (reverse (d ++ p)) (place t (length d + t) k + (16 - t)) 0 ≡ get_or (take t p ++ d) k 0
coefficient t d p ht hp k l =
    ap (λ (zs : List ℕ). get_or zs (place t (length d + t) k + (16 - t)) 0) (reverse-append d p)
    ∙ elim (le_or_lt t k) [ inl g ↦ high g | inr g ↦ low g ]
  where
    size : ℕ
    size = length d

    hr : length (reverse p) ≡ 16
    hr = length-reverse p ∙ hp

    taken : length (take t p) ≡ t
    taken = length-take-le t p (omega arith)

    low : k < t → get_or (reverse p ++ reverse d) (place t (length d + t) k + (16 - t)) 0 ≡ get_or (take t p ++ d) k 0
    low g =
        ap (λ (y : ℕ). get_or (reverse p ++ reverse d) (y + (16 - t)) 0) (place_low t (length d + t) k g)
        ∙ get_or_append_left (reverse p) (reverse d) 0 (t - 1 - k + (16 - t)) (omega (arith, hr))
        ∙ get_or-reverse p (t - 1 - k + (16 - t)) 0 (omega arith)
        ∙ ap (λ (y : ℕ). get_or p y 0) (let q : length p - 1 - (t - 1 - k + (16 - t)) ≡ k = omega arith in q)
        ∙ sym (get_or_append_left (take t p) d 0 k (omega (arith, taken)) ∙ get_or-take t p k 0 g)

    high : t ≤ k → get_or (reverse p ++ reverse d) (place t (length d + t) k + (16 - t)) 0 ≡ get_or (take t p ++ d) k 0
    high g =
        ap (λ (y : ℕ). get_or (reverse p ++ reverse d) (y + (16 - t)) 0) (place_high t (length d + t) k g)
        ∙ get_or-append_right (reverse p) (reverse d) 16 (length d + t + t - 1 - k + (16 - t)) 0 hr (omega arith)
        ∙ get_or-reverse d (length d + t + t - 1 - k + (16 - t) - 16) 0 (omega arith)
        ∙ ap (λ (y : ℕ). get_or d y 0) (let q : length d - 1 - (length d + t + t - 1 - k + (16 - t) - 16) ≡ k - t = omega arith in q)
        ∙ sym (get_or-append_right (take t p) d t k 0 taken g)

-- ---- an outer word's syndromes vanish
pub syndromes_vanish : (t : ℕ) (d p : List ℕ) → t ≤ 16 → length p ≡ 16 → Vanishes (d ++ p) → (j : ℕ) → j < t → syndrome t (length d + t) (word (take t p ++ d)) j ≡ 0
unfolding syndrome
syndromes_vanish t d p ht hp v j l =
    sum_same (length d + t) (λ k. (get_or (take t p ++ d) k 0 ⊗ weight (16 - t) (place t (length d + t) k + (16 - t))) ⊗ gpow (gexp (place t (length d + t) k)) j)
    (λ k. F (place t (length d + t) k))
    (λ k m. ap (λ (y : ℕ). (y ⊗ weight (16 - t) (place t (length d + t) k + (16 - t))) ⊗ gpow (gexp (place t (length d + t) k)) j) (sym (coefficient t d p ht hp k m)))
    ∙ reorder (length d) t F
    ∙ punctured (length d + t) (16 - t) f (λ r m. subst (λ (n : ℕ). sum n (λ i. f i ⊗ gpow (gexp r) i) ≡ 0) whole (sym (evaluated_sum (gexp r) (d ++ p)) ∙ v r m)) j (omega arith)
  where
    f : ℕ → ℕ
    f i = get_or (reverse (d ++ p)) i 0

    F : ℕ → ℕ
    F m = (f (m + (16 - t)) ⊗ weight (16 - t) (m + (16 - t))) ⊗ gpow (gexp m) j

    whole : length (d ++ p) ≡ length d + t + (16 - t)
    whole = length-append d p ∙ omega arith
