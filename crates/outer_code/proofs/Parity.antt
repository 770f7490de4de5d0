-- Each message has a parity with which it makes a code word: what is left of it by the generator's polynomial.
-- Assumes nothing.
use Rattle.std.proofs.Common.{◌≡◌, ℕ, zero, suc, ◌<◌, Bool, T, eqb, List, [], ◌∷◌, ◌++◌, length, get_or, replicate, sym, refl, ap, ◌∙◌, subst, ap₂, not-suc-le-zero, arith, eqb→eq}
use native.Mathlib.Nat.{suc_inj}
use Rattle.std.proofs.lemmas.List.{length-append}
use Rattle.field.specs.Field.{◌⊕◌, ◌⊗◌, gexp, gpow, multiples, xtime, xtimes}
use Rattle.field.proofs.Tests.{all, all_at}
use Rattle.field.proofs.Field.{add_assoc, add_comm, add_left_comm, add_zero, zero_add, add_lt, add_swap, mul_assoc, mul_comm, mul_left_comm, mul_add, add_mul, mul_lt, zero_mul, mul_zero, mul_one}
use Rattle.field.proofs.Powers.{zero_if_same, pow_suc, pow_zero, pow_add}
use Rattle.outer_code.specs.Parity.{generator, mix, next, rest, parity_of}
use Rattle.outer_code.specs.Outer.{evaluated, Vanishes, AreBytes}

generator_test : ℕ → Bool
generator_test j = eqb (evaluated (gexp j) generator) (gpow (gexp j) 16)

generator_tested : T (all generator_test 16)
unfolding generator_test generator evaluated gexp xtimes xtime gpow ◌⊗◌ ◌⊕◌ multiples
generator_tested = tt

generator_root : (j : ℕ) → j < 16 → evaluated (gexp j) generator ≡ gpow (gexp j) 16
unfolding generator_test
generator_root j h = eqb→eq (evaluated (gexp j) generator) (gpow (gexp j) 16) (all_at generator_test 16 generator_tested j h)

length_mix : (feedback : ℕ) (rs gs : List ℕ) → length (mix feedback rs gs) ≡ length gs
unfolding mix
length_mix feedback rs [] = refl
length_mix feedback [] (g ∷ gs) = ap suc (length_mix feedback [] gs)
length_mix feedback (r ∷ rs) (g ∷ gs) = ap suc (length_mix feedback rs gs)

evaluated_lt : (y : ℕ) (cs : List ℕ) → evaluated y cs < 256
unfolding evaluated
evaluated_lt y [] = omega arith
evaluated_lt y (c ∷ cs) = add_lt (c ⊗ gpow y (length cs)) (evaluated y cs) (mul_lt c (gpow y (length cs))) (evaluated_lt y cs)

mix_step : (y feedback r g p q v w : ℕ) → q ≡ y ⊗ p → ((r ⊕ (feedback ⊗ g)) ⊗ q) ⊕ ((y ⊗ v) ⊕ (feedback ⊗ w)) ≡ (y ⊗ ((r ⊗ p) ⊕ v)) ⊕ (feedback ⊗ ((g ⊗ q) ⊕ w))
mix_step y feedback r g p q v w e =
    ap (λ (z : ℕ). z ⊕ ((y ⊗ v) ⊕ (feedback ⊗ w))) (add_mul r (feedback ⊗ g) q) ∙ add_swap (r ⊗ q) ((feedback ⊗ g) ⊗ q) (y ⊗ v) (feedback ⊗ w)
    ∙ ap₂ ◌⊕◌
    (ap (λ (z : ℕ). z ⊕ (y ⊗ v)) (ap (λ (z : ℕ). r ⊗ z) e ∙ mul_left_comm r y p) ∙ sym (mul_add y (r ⊗ p) v))
    (ap (λ (z : ℕ). z ⊕ (feedback ⊗ w)) (mul_assoc feedback g q) ∙ sym (mul_add feedback (g ⊗ q) w))

evaluated_mix : (y feedback : ℕ) (rs gs : List ℕ) → length gs ≡ suc (length rs) → evaluated y (mix feedback rs gs) ≡ (y ⊗ evaluated y rs) ⊕ (feedback ⊗ evaluated y gs)
unfolding mix evaluated
evaluated_mix y feedback rs [] h = absurd (omega arith)
evaluated_mix y feedback [] (g ∷ []) h = simp (add_zero, mul_zero, zero_add, mul_assoc)
evaluated_mix y feedback [] (g ∷ g' ∷ gs) h = absurd (omega arith)
evaluated_mix y feedback (r ∷ rs) (g ∷ gs) h =
    ap₂ ◌⊕◌ (ap (λ (n : ℕ). (r ⊕ (feedback ⊗ g)) ⊗ gpow y n) (length_mix feedback rs gs)) (evaluated_mix y feedback rs gs (suc_inj h))
    ∙ mix_step y feedback r g (gpow y (length rs)) (gpow y (length gs)) (evaluated y rs) (evaluated y gs) (ap (gpow y) (suc_inj h) ∙ pow_suc y (length rs))

pub evaluated_append : (y : ℕ) (ds p : List ℕ) → evaluated y (ds ++ p) ≡ (evaluated y ds ⊗ gpow y (length p)) ⊕ evaluated y p
unfolding evaluated
evaluated_append y [] p = sym (ap (λ (z : ℕ). z ⊕ evaluated y p) (zero_mul (gpow y (length p))) ∙ zero_add (evaluated y p))
evaluated_append y (d ∷ ds) p =
    ap₂ ◌⊕◌ (ap (λ (z : ℕ). d ⊗ z) (ap (gpow y) (length-append ds p) ∙ pow_add y (length ds) (length p)) ∙ sym (mul_assoc d (gpow y (length ds)) (gpow y (length p)))) (evaluated_append y ds p)
    ∙ sym (add_assoc ((d ⊗ gpow y (length ds)) ⊗ gpow y (length p)) (evaluated y ds ⊗ gpow y (length p)) (evaluated y p))
    ∙ ap (λ (z : ℕ). z ⊕ evaluated y p) (sym (add_mul (d ⊗ gpow y (length ds)) (evaluated y ds) (gpow y (length p))))

pub evaluated_zeros : (y n : ℕ) (cs : List ℕ) → evaluated y (replicate n 0 ++ cs) ≡ evaluated y cs
unfolding evaluated
evaluated_zeros y zero cs = refl
evaluated_zeros y (suc n) cs = ap₂ ◌⊕◌ (zero_mul (gpow y (length (replicate n 0 ++ cs)))) (evaluated_zeros y n cs) ∙ zero_add (evaluated y cs)

evaluated_blank : (y n : ℕ) → evaluated y (replicate n 0) ≡ 0
unfolding evaluated
evaluated_blank y zero = refl
evaluated_blank y (suc n) = ap₂ ◌⊕◌ (zero_mul (gpow y (length (replicate n 0)))) (evaluated_blank y n) ∙ add_zero 0

length_generator : length generator ≡ 16
unfolding generator
length_generator = refl

pub length_next : (r : List ℕ) (d : ℕ) → length r ≡ 16 → length (next r d) ≡ 16
unfolding next
length_next [] d h = h
length_next (r ∷ rs) d h = length_mix (d ⊕ r) rs generator ∙ length_generator

-- y is a root of the generator
module _ (y : ℕ) (root : evaluated y generator ≡ gpow y 16) where
  evaluated_next : (r : List ℕ) (d : ℕ) → length r ≡ 16 → evaluated y (next r d) ≡ (y ⊗ evaluated y r) ⊕ (d ⊗ gpow y 16)
  unfolding next evaluated
  evaluated_next [] d h = absurd (omega arith)
  evaluated_next (r ∷ rs) d h =
      evaluated_mix y (d ⊕ r) rs generator (length_generator ∙ sym h)
      ∙ ap (λ (z : ℕ). (y ⊗ evaluated y rs) ⊕ z) (ap (λ (z : ℕ). (d ⊕ r) ⊗ z) root ∙ add_mul d r (gpow y 16))
      ∙ turn (y ⊗ evaluated y rs) (d ⊗ gpow y 16) (r ⊗ gpow y 16)
      ∙ ap (λ (z : ℕ). z ⊕ (d ⊗ gpow y 16))
      (ap (λ (z : ℕ). z ⊕ (y ⊗ evaluated y rs)) (ap (λ (z : ℕ). r ⊗ z) (ap (gpow y) (sym h) ∙ pow_suc y (length rs)) ∙ mul_left_comm r y (gpow y (length rs)))
      ∙ sym (mul_add y (r ⊗ gpow y (length rs)) (evaluated y rs)))
    where
      turn : (a b c : ℕ) → a ⊕ (b ⊕ c) ≡ (c ⊕ a) ⊕ b
      turn a b c = simp (add_assoc, add_comm, add_left_comm)

  evaluated_rest : (r ds : List ℕ) → length r ≡ 16 → evaluated y (rest r ds) ≡ (evaluated y r ⊗ gpow y (length ds)) ⊕ (evaluated y ds ⊗ gpow y 16)
  unfolding rest evaluated
  evaluated_rest r [] h = sym (ap₂ ◌⊕◌ (ap (λ (z : ℕ). evaluated y r ⊗ z) (pow_zero y) ∙ mul_one (evaluated y r) (evaluated_lt y r)) (zero_mul (gpow y 16)) ∙ add_zero (evaluated y r))
  evaluated_rest r (d ∷ ds) h =
      evaluated_rest (next r d) ds (length_next r d h)
      ∙ ap (λ (z : ℕ). (z ⊗ gpow y (length ds)) ⊕ (evaluated y ds ⊗ gpow y 16)) (evaluated_next r d h)
      ∙ join (evaluated y r) d (gpow y (length ds)) (gpow y 16) (evaluated y ds)
      ∙ ap (λ (z : ℕ). (evaluated y r ⊗ z) ⊕ (((d ⊗ gpow y (length ds)) ⊕ evaluated y ds) ⊗ gpow y 16)) (sym (pow_suc y (length ds)))
    where
      join : (v d p q w : ℕ) → (((y ⊗ v) ⊕ (d ⊗ q)) ⊗ p) ⊕ (w ⊗ q) ≡ (v ⊗ (y ⊗ p)) ⊕ (((d ⊗ p) ⊕ w) ⊗ q)
      join v d p q w = simp (mul_add, add_mul, add_assoc, mul_assoc, mul_comm, mul_left_comm)

pub length_rest : (r ds : List ℕ) → length r ≡ 16 → length (rest r ds) ≡ 16
unfolding rest
length_rest r [] h = h
length_rest r (d ∷ ds) h = length_rest (next r d) ds (length_next r d h)

pub length_parity : (ds : List ℕ) → length (parity_of ds) ≡ 16
unfolding parity_of
length_parity ds = length_rest (replicate 16 0) ds refl

pub encoded : (ds : List ℕ) → Vanishes (ds ++ parity_of ds)
unfolding parity_of
encoded ds j h =
    evaluated_append y ds (rest (replicate 16 0) ds)
    ∙ ap (λ (z : ℕ). (evaluated y ds ⊗ gpow y z) ⊕ evaluated y (rest (replicate 16 0) ds)) (length_rest (replicate 16 0) ds refl)
    ∙ zero_if_same (evaluated y ds ⊗ gpow y 16) (evaluated y (rest (replicate 16 0) ds))
    (sym (evaluated_rest y root (replicate 16 0) ds refl
    ∙ ap (λ (z : ℕ). (z ⊗ gpow y (length ds)) ⊕ (evaluated y ds ⊗ gpow y 16)) (evaluated_blank y 16)
    ∙ ap (λ (z : ℕ). z ⊕ (evaluated y ds ⊗ gpow y 16)) (zero_mul (gpow y (length ds))) ∙ zero_add (evaluated y ds ⊗ gpow y 16)))
  where
    y : ℕ
    y = gexp j

    root : evaluated y generator ≡ gpow y 16
    root = generator_root j h

mix_bytes : (feedback : ℕ) (rs gs : List ℕ) → AreBytes rs → (k : ℕ) → get_or (mix feedback rs gs) k 0 < 256
unfolding mix
mix_bytes feedback rs [] h k = omega arith
mix_bytes feedback [] (g ∷ gs) h zero = mul_lt feedback g
mix_bytes feedback [] (g ∷ gs) h (suc k) = mix_bytes feedback [] gs h k
mix_bytes feedback (r ∷ rs) (g ∷ gs) h zero = add_lt r (feedback ⊗ g) (h 0) (mul_lt feedback g)
mix_bytes feedback (r ∷ rs) (g ∷ gs) h (suc k) = mix_bytes feedback rs gs (λ i. h (suc i)) k

pub next_bytes : (r : List ℕ) (d : ℕ) → AreBytes r → AreBytes (next r d)
unfolding next
next_bytes [] d h = h
next_bytes (r ∷ rs) d h = mix_bytes (d ⊕ r) rs generator (λ i. h (suc i))

rest_bytes : (r ds : List ℕ) → AreBytes r → AreBytes (rest r ds)
unfolding rest
rest_bytes r [] h = h
rest_bytes r (d ∷ ds) h = rest_bytes (next r d) ds (next_bytes r d h)

zeros_bytes : (n : ℕ) → AreBytes (replicate n 0)
zeros_bytes zero k = omega arith
zeros_bytes (suc n) zero = omega arith
zeros_bytes (suc n) (suc k) = zeros_bytes n k

pub parity_bytes : (ds : List ℕ) → AreBytes (parity_of ds)
unfolding parity_of
parity_bytes ds = rest_bytes (replicate 16 0) ds (zeros_bytes 16)

mix_at : (feedback : ℕ) (rs gs : List ℕ) (i : ℕ) → i < length gs → get_or (mix feedback rs gs) i 0 ≡ get_or rs i 0 ⊕ (feedback ⊗ get_or gs i 0)
unfolding mix
mix_at feedback rs [] i h = absurd (not-suc-le-zero h)
mix_at feedback [] (g ∷ gs) zero h = sym (zero_add (feedback ⊗ g))
mix_at feedback [] (g ∷ gs) (suc i) h = mix_at feedback [] gs i (omega arith)
mix_at feedback (r ∷ rs) (g ∷ gs) zero h = refl
mix_at feedback (r ∷ rs) (g ∷ gs) (suc i) h = mix_at feedback rs gs i (omega arith)

pub next_at : (r : List ℕ) (d i : ℕ) → length r ≡ 16 → i < 16 → get_or (next r d) i 0 ≡ get_or r (suc i) 0 ⊕ ((d ⊕ get_or r 0 0) ⊗ get_or generator i 0)
unfolding next
next_at [] d i h l = absurd (omega arith)
next_at (r ∷ rs) d i h l = mix_at (d ⊕ r) rs generator i (subst (λ (m : ℕ). i < m) (sym length_generator) l)

-- the rest so far, and one byte more
pub rest_more : (r ds es : List ℕ) → rest r (ds ++ es) ≡ rest (rest r ds) es
unfolding rest
rest_more r [] es = refl
rest_more r (d ∷ ds) es = rest_more (next r d) ds es

pub rest_one : (r : List ℕ) (d : ℕ) → rest r (d ∷ []) ≡ next r d
unfolding rest
rest_one r d = refl

pub parity_more : (ds : List ℕ) (d : ℕ) → parity_of (ds ++ d ∷ []) ≡ next (parity_of ds) d
unfolding parity_of
parity_more ds d = rest_more (replicate 16 0) ds (d ∷ []) ∙ rest_one (rest (replicate 16 0) ds) d

pub parity_none : parity_of [] ≡ replicate 16 0
unfolding parity_of rest
parity_none = refl
