-- The value of an error, from the power sums of all of them.
-- Assumes nothing.
use Rattle.std.proofs.Common.{◌≡◌, ℕ, zero, suc, ◌+◌, ◌-◌, ◌*◌, ◌<◌, ◌≤◌, Bool, true, false, eqb, ◌≢◌, ◌⊎◌, List, length, get_or, sym, refl, ap, ◌∙◌, subst, ap₂, inl, inr, le_refl, le_of_suc-le-suc, not-suc-le-zero, eq-or-lt_of_le, add-one, arith, eq-eqb, ne_eqb}
use native.Mathlib.Nat.{le_step}
use native.Mathlib.Decide.{ℕ_discrete, dec_le}
use Rattle.field.specs.Field.{◌⊕◌, ◌⊗◌, gpow}
use Rattle.field.proofs.Field.{add_zero, zero_add, add_self, mul_assoc, mul_comm, mul_zero, zero_mul, mul_one, mul_lt, add_lt, no_divisors}
use Rattle.outer_theory.specs.Sums.{sum}
use Rattle.words.specs.Words.{word}
use Rattle.outer_theory.specs.Syndromes.{X, V, syndrome}
use Rattle.outer_theory.proofs.Errors.{Errors}
use Rattle.outer_theory.proofs.Iff.{X_lt, X_apart, V_lt, V_nonzero}
use Rattle.field.proofs.Powers.{pow_zero, same_if_zero}
use Rattle.outer_theory.proofs.Sums.{zeros, one_if_zero, sum_same, sum_none}
use Rattle.outer_theory.proofs.Vander.{step}

-- a where an index is passed over, b where it is taken
abbrev pub choose : Bool → ℕ → ℕ → ℕ → ℕ
choose true m a b = a
choose false zero a b = b
choose false (suc m) a b = a

-- the product of x q + x i over the marked i below the bound, but for k
unfoldable pub distances : (ℕ → ℕ) → (ℕ → ℕ) → ℕ → ℕ → ℕ → ℕ
distances x mk k zero q = 1
distances x mk k (suc i) q = choose (eqb i k) (mk i) (distances x mk k i q) (distances x mk k i q ⊗ (x q ⊕ x i))

-- how many they are
unfoldable pub others : (ℕ → ℕ) → ℕ → ℕ → ℕ
others mk k zero = 0
others mk k (suc i) = choose (eqb i k) (mk i) (others mk k i) (suc (others mk k i))

sum_single : (n k : ℕ) (f : ℕ → ℕ) → k < n → ((q : ℕ) → q < n → q ≢ k → f q ≡ 0) → sum n f ≡ f k
unfolding sum
sum_single zero k f h z = absurd (not-suc-le-zero h)
sum_single (suc n) k f h z =
    elim (eq-or-lt_of_le (le_of_suc-le-suc h)) [
      | inl e ↦ ap₂ ◌⊕◌ (sum_none n f (λ q l. z q (le_step l) (λ w. omega arith))) (ap f (sym e)) ∙ zero_add (f k)
      | inr l ↦ ap₂ ◌⊕◌ (sum_single n k f l (λ q m. z q (le_step m))) (z n (le_refl (suc n)) (λ w. omega arith)) ∙ add_zero (f k)
    ]

module _ (x mk : ℕ → ℕ) (k : ℕ) where
  choose_skip : (m a b : ℕ) → (m ≡ 0 → ⊥) → (c : Bool) → choose c m a b ≡ a
  choose_skip zero a b h c = absurd (h refl)
  choose_skip (suc m) a b h true = refl
  choose_skip (suc m) a b h false = refl

  choose_take : (m a b : ℕ) → m ≡ 0 → choose false m a b ≡ b
  choose_take m a b h = ap (λ (y : ℕ). choose false y a b) h

  distances_skip : (i q : ℕ) → (i ≡ k) ⊎ (mk i ≡ 0 → ⊥) → distances x mk k (suc i) q ≡ distances x mk k i q
  unfolding distances
  distances_skip i q (inl e) = ap (λ (c : Bool). choose c (mk i) (distances x mk k i q) (distances x mk k i q ⊗ (x q ⊕ x i))) (eq-eqb i k e)
  distances_skip i q (inr h) = choose_skip (mk i) (distances x mk k i q) (distances x mk k i q ⊗ (x q ⊕ x i)) h (eqb i k)

  distances_take : (i q : ℕ) → (i ≡ k → ⊥) → mk i ≡ 0 → distances x mk k (suc i) q ≡ distances x mk k i q ⊗ (x q ⊕ x i)
  unfolding distances
  distances_take i q n h =
      ap (λ (c : Bool). choose c (mk i) (distances x mk k i q) (distances x mk k i q ⊗ (x q ⊕ x i))) (ne_eqb i k n)
      ∙ choose_take (mk i) (distances x mk k i q) (distances x mk k i q ⊗ (x q ⊕ x i)) h

  others_skip : (i : ℕ) → (i ≡ k) ⊎ (mk i ≡ 0 → ⊥) → others mk k (suc i) ≡ others mk k i
  unfolding others
  others_skip i (inl e) = ap (λ (c : Bool). choose c (mk i) (others mk k i) (suc (others mk k i))) (eq-eqb i k e)
  others_skip i (inr h) = choose_skip (mk i) (others mk k i) (suc (others mk k i)) h (eqb i k)

  others_take : (i : ℕ) → (i ≡ k → ⊥) → mk i ≡ 0 → others mk k (suc i) ≡ suc (others mk k i)
  unfolding others
  others_take i n h =
      ap (λ (c : Bool). choose c (mk i) (others mk k i) (suc (others mk k i))) (ne_eqb i k n) ∙ choose_take (mk i) (others mk k i) (suc (others mk k i)) h

  others_more : (i : ℕ) → others mk k i ≤ zeros i mk → (m : ℕ) → mk i ≡ m → Dec (i ≡ k) → others mk k (suc i) ≤ zeros (suc i) mk
  unfolding zeros
  others_more i ih (suc m) e d = omega (arith, ih, others_skip i (inr (λ z. omega arith)))
  others_more i ih zero e (yes q) = omega (arith, ih, others_skip i (inl q))
  others_more i ih zero e (no q) = let z : one_if_zero (mk i) ≡ 1 = ap one_if_zero e in omega (arith, ih, others_take i q e)

  others_le : (i : ℕ) → others mk k i ≤ zeros i mk
  unfolding zeros others
  others_le zero = omega arith
  others_le (suc i) = others_more i (others_le i) (mk i) refl (ℕ_discrete i k)

  -- k itself is marked and not among the others
  others_lt : (i : ℕ) → k < i → mk k ≡ 0 → others mk k i < zeros i mk
  unfolding zeros
  others_lt zero h z = absurd (not-suc-le-zero h)
  others_lt (suc i) h z =
      elim (eq-or-lt_of_le (le_of_suc-le-suc h)) [
        | inl e ↦ (let q : one_if_zero (mk i) ≡ 1 = ap (λ (m : ℕ). one_if_zero (mk m)) (sym e) ∙ ap one_if_zero z in omega (arith, others_le i, others_skip i (inl (sym e))))
        | inr l ↦ later (others_lt i l z) (ℕ_discrete i k) (mk i) refl
      ]
    where
      later : others mk k i < zeros i mk → Dec (i ≡ k) → (m : ℕ) → mk i ≡ m → others mk k (suc i) < zeros i mk + one_if_zero (mk i)
      later ih (yes e) m q = omega (arith, ih, others_skip i (inl e))
      later ih (no e) (suc m) q = omega (arith, ih, others_skip i (inr (λ z. omega arith)))
      later ih (no e) zero q = let o : one_if_zero (mk i) ≡ 1 = ap one_if_zero q in omega (arith, ih, others_take i e q)

  -- a marked place other than k has a distance 0 among its own
  distances_zero : (n q : ℕ) → q < n → (q ≡ k → ⊥) → mk q ≡ 0 → distances x mk k n q ≡ 0
  distances_zero zero q l n h = absurd (not-suc-le-zero l)
  distances_zero (suc i) q l n h =
      elim (eq-or-lt_of_le (le_of_suc-le-suc l)) [
        | inl e ↦ subst (λ (j : ℕ). distances x mk k (suc j) q ≡ 0) e
            (distances_take q q n h ∙ ap (λ (y : ℕ). distances x mk k q q ⊗ y) (add_self (x q)) ∙ mul_zero (distances x mk k q q))
        | inr m ↦ later (distances_zero i q m n h) (ℕ_discrete i k) (ℕ_discrete (mk i) 0)
      ]
    where
      later : distances x mk k i q ≡ 0 → Dec (i ≡ k) → Dec (mk i ≡ 0) → distances x mk k (suc i) q ≡ 0
      later z (yes e) d = distances_skip i q (inl e) ∙ z
      later z (no e) (no d) = distances_skip i q (inr d) ∙ z
      later z (no e) (yes d) = distances_take i q e d ∙ ap (λ (y : ℕ). y ⊗ (x q ⊕ x i)) z ∙ zero_mul (x q ⊕ x i)

-- one place more: the power sums with one factor more
folded_sum : (n j a : ℕ) (E p p' x : ℕ → ℕ) → ((q : ℕ) → q < n → p' q ≡ p q ⊗ (x q ⊕ a)) → (f0 f1 f : ℕ) → f0 ≡ sum n (λ q. (E q ⊗ p q) ⊗ gpow (x q) j) → f1 ≡ sum n (λ q. (E q ⊗ p q) ⊗ gpow (x q) (suc j))
    → f ≡ f1 ⊕ (a ⊗ f0) → f ≡ sum n (λ q. (E q ⊗ p' q) ⊗ gpow (x q) j)
folded_sum n j a E p p' x h f0 f1 f e0 e1 e =
    e ∙ ap₂ (λ (u w : ℕ). u ⊕ (a ⊗ w)) e1 e0 ∙ sym (step n a j (λ q. E q ⊗ p q) x)
    ∙ sum_same n (λ q. ((E q ⊗ p q) ⊗ (x q ⊕ a)) ⊗ gpow (x q) j) (λ q. (E q ⊗ p' q) ⊗ gpow (x q) j)
    (λ q l. ap (λ (y : ℕ). y ⊗ gpow (x q) j) (mul_assoc (E q) (p q) (x q ⊕ a) ∙ ap (λ (y : ℕ). E q ⊗ y) (sym (h q l))))

error_value : (n k : ℕ) (e v x mk : ℕ → ℕ) (f d i r : ℕ) → k < n → ((q : ℕ) → q < n → (mk q ≡ 0 → ⊥) → e q ≡ 0) → e k < 256
    → f ≡ sum n (λ q. ((e q ⊗ v q) ⊗ distances x mk k n q) ⊗ gpow (x q) 0) → d ≡ v k ⊗ distances x mk k n k → i ⊗ d ≡ 1 → r ≡ f ⊗ i → r ≡ e k
error_value n k e v x mk f d i r l out b ef ed ei er =
    er ∙ ap (λ (y : ℕ). y ⊗ i) (ef ∙ sum_single n k F l gone ∙ ap (λ (y : ℕ). ((e k ⊗ v k) ⊗ distances x mk k n k) ⊗ y) (pow_zero (x k)) ∙ mul_one ((e k ⊗ v k) ⊗ distances x mk k n k) (mul_lt (e k ⊗ v k) (distances x mk k n k)) ∙ mul_assoc (e k) (v k) (distances x mk k n k) ∙ ap (λ (y : ℕ). e k ⊗ y) (sym ed))
    ∙ mul_assoc (e k) d i ∙ ap (λ (y : ℕ). e k ⊗ y) (mul_comm d i ∙ ei) ∙ mul_one (e k) b
  where
    F : ℕ → ℕ
    F q = ((e q ⊗ v q) ⊗ distances x mk k n q) ⊗ gpow (x q) 0

    gone : (q : ℕ) → q < n → q ≢ k → F q ≡ 0
    gone q m ne =
        elim (ℕ_discrete (mk q) 0) [
          | yes z ↦ ap (λ (y : ℕ). ((e q ⊗ v q) ⊗ y) ⊗ gpow (x q) 0) (distances_zero x mk k n q m ne z) ∙ ap (λ (y : ℕ). y ⊗ gpow (x q) 0) (mul_zero (e q ⊗ v q)) ∙ zero_mul (gpow (x q) 0)
          | no z ↦ ap (λ (y : ℕ). ((y ⊗ v q) ⊗ distances x mk k n q) ⊗ gpow (x q) 0) (out q m z) ∙ ap (λ (y : ℕ). (y ⊗ distances x mk k n q) ⊗ gpow (x q) 0) (zero_mul (v q))
              ∙ ap (λ (y : ℕ). y ⊗ gpow (x q) 0) (zero_mul (distances x mk k n q)) ∙ zero_mul (gpow (x q) 0)
        ]

-- the loop over the bytes: f is the syndromes' combination in which the marked bytes before i, but for k, have no part
pub record Folding (limit n k : ℕ) (s marks f : List ℕ) (d i : ℕ) : Type 0 where
  pub divisor : d ≡ V (2 * limit) n k ⊗ distances (X (2 * limit) n) (word marks) k i k
  pub nonzero : 0 < d
  pub long : length f ≡ 16
  pub sums : (e : ℕ → ℕ) → Errors limit n s marks e → (j : ℕ) → j + others (word marks) k i < limit
      → get_or f j 0 ≡ sum n (λ q. ((e q ⊗ V (2 * limit) n q) ⊗ distances (X (2 * limit) n) (word marks) k i q) ⊗ gpow (X (2 * limit) n q) j)

positive : (d : ℕ) → (d ≡ 0 → ⊥) → 0 < d
positive zero h = absurd (h refl)
positive (suc d) h = omega arith

module _ (limit n k : ℕ) (ht : 2 * limit ≤ n) (h16 : 2 * limit ≤ 16) (hn : n + (16 - 2 * limit) ≤ 255) (hk : k < n) (s marks : List ℕ) where
  mk : ℕ → ℕ
  mk q = get_or marks q 0

  pub folding_start : (d : ℕ) → length s ≡ 16 → d ≡ V (2 * limit) n k → Folding limit n k s marks s d 0
  unfolding distances others syndrome
  folding_start d ls e =
      record {
        divisor = e ∙ sym (mul_one (V (2 * limit) n k) (V_lt (2 * limit) n ht h16 hn k hk));
        nonzero = positive d (λ z. V_nonzero (2 * limit) n ht h16 hn k hk (sym e ∙ z));
        long = ls;
        sums = λ er E j h. E.explained j (omega arith)
            ∙ sum_same n (λ q. (er q ⊗ V (2 * limit) n q) ⊗ gpow (X (2 * limit) n q) j) (λ q. ((er q ⊗ V (2 * limit) n q) ⊗ 1) ⊗ gpow (X (2 * limit) n q) j)
            (λ q l. ap (λ (y : ℕ). y ⊗ gpow (X (2 * limit) n q) j) (sym (mul_one (er q ⊗ V (2 * limit) n q) (mul_lt (er q) (V (2 * limit) n q)))));
      }

  pub folding_skip : (f : List ℕ) (d i : ℕ) → (i ≡ k) ⊎ (get_or marks i 0 ≡ 0 → ⊥) → Folding limit n k s marks f d i → Folding limit n k s marks f d (i + 1)
  unfolding mk
  folding_skip f d i c w =
      subst (λ (m : ℕ). Folding limit n k s marks f d m) (sym (add-one i))
      (record {
        divisor = w.divisor ∙ ap (λ (y : ℕ). V (2 * limit) n k ⊗ y) (sym (distances_skip (X (2 * limit) n) mk k i k c));
        nonzero = w.nonzero;
        long = w.long;
        sums = λ er E j h. w.sums er E j (omega (arith, others_skip (X (2 * limit) n) mk k i c))
            ∙ sum_same n (λ q. ((er q ⊗ V (2 * limit) n q) ⊗ distances (X (2 * limit) n) mk k i q) ⊗ gpow (X (2 * limit) n q) j) (λ q. ((er q ⊗ V (2 * limit) n q) ⊗ distances (X (2 * limit) n) mk k (suc i) q) ⊗ gpow (X (2 * limit) n q) j)
            (λ q l. ap (λ (y : ℕ). ((er q ⊗ V (2 * limit) n q) ⊗ y) ⊗ gpow (X (2 * limit) n q) j) (sym (distances_skip (X (2 * limit) n) mk k i q c)));
      })

  pub folding_take : (f f' : List ℕ) (d d' y i : ℕ) → i < n → (i ≡ k → ⊥) → get_or marks i 0 ≡ 0 → y ≡ X (2 * limit) n i → length f' ≡ 16
      → ((j : ℕ) → j < limit → get_or f' j 0 ≡ get_or f (j + 1) 0 ⊕ (y ⊗ get_or f j 0)) → d' ≡ d ⊗ (X (2 * limit) n k ⊕ X (2 * limit) n i) → Folding limit n k s marks f d i → Folding limit n k s marks f' d' (i + 1)
  unfolding mk
  folding_take f f' d d' y i hi n0 z ey lf hf ed w =
      subst (λ (m : ℕ). Folding limit n k s marks f' d' m) (sym (add-one i))
      (record {
        divisor = ed ∙ ap (λ (u : ℕ). u ⊗ (X (2 * limit) n k ⊕ X (2 * limit) n i)) w.divisor ∙ mul_assoc (V (2 * limit) n k) (distances (X (2 * limit) n) mk k i k) (X (2 * limit) n k ⊕ X (2 * limit) n i)
            ∙ ap (λ (u : ℕ). V (2 * limit) n k ⊗ u) (sym (distances_take (X (2 * limit) n) mk k i k n0 z));
        nonzero = positive d' (λ q. apart (same_if_zero (X (2 * limit) n k) (X (2 * limit) n i) (no_divisors d (X (2 * limit) n k ⊕ X (2 * limit) n i) hd (add_lt (X (2 * limit) n k) (X (2 * limit) n i) (X_lt (2 * limit) n ht h16 hn k hk) (X_lt (2 * limit) n ht h16 hn i hi)) (sym ed ∙ q) (λ p. (let g = w.nonzero in omega arith)))));
        long = lf;
        sums = λ er E j h. (let o = others_take (X (2 * limit) n) mk k i n0 z in
            folded_sum n j y (λ q. er q ⊗ V (2 * limit) n q) (distances (X (2 * limit) n) mk k i) (distances (X (2 * limit) n) mk k (suc i)) (X (2 * limit) n)
            (λ q l. distances_take (X (2 * limit) n) mk k i q n0 z ∙ ap (λ (u : ℕ). distances (X (2 * limit) n) mk k i q ⊗ (X (2 * limit) n q ⊕ u)) (sym ey))
            (get_or f j 0) (get_or f (suc j) 0) (get_or f' j 0) (w.sums er E j (omega arith)) (w.sums er E (suc j) (omega arith))
            (hf j (omega arith) ∙ ap (λ (m : ℕ). get_or f m 0 ⊕ (y ⊗ get_or f j 0)) (add-one j)));
      })
    where
      hd : d < 256
      hd = subst (λ (m : ℕ). m < 256) (sym w.divisor) (mul_lt (V (2 * limit) n k) (distances (X (2 * limit) n) mk k i k))

      apart : X (2 * limit) n k ≡ X (2 * limit) n i → ⊥
      apart e = elim (dec_le i k) [ yes a ↦ X_apart (2 * limit) n ht h16 hn i k (omega arith) hk (sym e) | no a ↦ X_apart (2 * limit) n ht h16 hn k i (omega arith) hi e ]

  pub folding_end : (f : List ℕ) (d i v r : ℕ) → Folding limit n k s marks f d i → i ≡ n → get_or marks k 0 ≡ 0 → v ⊗ d ≡ 1 → r ≡ get_or f 0 0 ⊗ v → (e : ℕ → ℕ) → Errors limit n s marks e → r ≡ e k
  unfolding mk
  folding_end f d i v r w ei zk ev er e E =
      error_value n k e (V (2 * limit) n) (X (2 * limit) n) mk (get_or f 0 0) d v r hk E.outside (E.bytes k hk)
      (subst (λ (m : ℕ). get_or f 0 0 ≡ sum n (λ q. ((e q ⊗ V (2 * limit) n q) ⊗ distances (X (2 * limit) n) mk k m q) ⊗ gpow (X (2 * limit) n q) 0)) ei
      (w.sums e E 0 (subst (λ (m : ℕ). 0 + others mk k m < limit) (sym ei) (let o = others_lt (X (2 * limit) n) mk k n hk zk in let g = E.few in omega arith))))
      (subst (λ (m : ℕ). d ≡ V (2 * limit) n k ⊗ distances (X (2 * limit) n) mk k m k) ei w.divisor) ev er

  pub folding_carried : (f f' : List ℕ) (d d' i : ℕ) → f' ≡ f → d' ≡ d → Folding limit n k s marks f d i → Folding limit n k s marks f' d' i
  folding_carried f f' d d' i a b w = subst (λ (g : List ℕ). Folding limit n k s marks g d' i) (sym a) (subst (λ (m : ℕ). Folding limit n k s marks f m i) (sym b) w)
