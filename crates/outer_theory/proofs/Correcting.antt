-- From a block near an outer word to its errors, and from errors that explain the syndromes to the outer word.
-- Assumes nothing.
use Rattle.std.proofs.Common.{◌≡◌, ℕ, zero, suc, ◌+◌, ◌*◌, ◌<◌, ◌≤◌, ◌⊎◌, List, [], ◌∷◌, length, get_or, take, sym, refl, ap, ◌∙◌, subst, ap₂, inl, inr, le_trans, le_refl, arith}
use native.Mathlib.Nat.{le_step}
use native.Mathlib.Decide.{ℕ_discrete}
use Rattle.std.proofs.lemmas.List.{length-take-le, get_or-take}
use Rattle.field.specs.Field.{◌⊕◌, ◌⊗◌, gpow}
use Rattle.field.proofs.Field.{add_assoc, add_self, zero_add, add_lt}
use Rattle.field.proofs.Powers.{zero_if_same}
use Rattle.words.specs.Words.{word}
use Rattle.outer_code.specs.Outer.{AreBytes, Outer}
use Rattle.outer_theory.specs.Sums.{sum, count, one_if}
use Rattle.outer_theory.specs.Syndromes.{syndrome, differing, X, V}
use Rattle.outer_theory.specs.Correction.{Corrected}
use Rattle.outer_theory.proofs.Errors.{Errors}
use Rattle.outer_theory.proofs.Sums.{zeros, sum_same, count_none}
use Rattle.outer_theory.proofs.Poly.{ev, ev_sum, Zero, AllBytes, few_roots, zeros_le}
use Rattle.outer_theory.proofs.Locate.{moment, moment_add, moment_same, poly, located, sums_of_error}
use Rattle.outer_theory.proofs.Iff.{syndrome_is, X_lt, X_apart, V_lt, V_nonzero, outer_bytes, outer_syndromes, syndromes_outer, only_one}

back : (a r : ℕ) → a ⊕ (a ⊕ r) ≡ r
back a r = sym (add_assoc a a r) ∙ ap (λ (y : ℕ). y ⊕ r) (add_self a) ∙ zero_add r

count_same : (n : ℕ) (f g : ℕ → ℕ) → ((k : ℕ) → k < n → f k ≡ g k) → count n f ≡ count n g
unfolding count
count_same zero f g h = refl
count_same (suc n) f g h = ap₂ ◌+◌ (count_same n f g (λ k l. h k (le_step l))) (ap one_if (h n (le_refl (suc n))))

syndrome_same : (t n : ℕ) (f g : ℕ → ℕ) → ((k : ℕ) → k < n → f k ≡ g k) → (j : ℕ) → syndrome t n f j ≡ syndrome t n g j
syndrome_same t n f g h j = syndrome_is t n f j ∙ moment_same n (X t n) (V t n) f g h j ∙ sym (syndrome_is t n g j)

syndrome_add : (t n : ℕ) (f g : ℕ → ℕ) (j : ℕ) → syndrome t n (λ k. f k ⊕ g k) j ≡ syndrome t n f j ⊕ syndrome t n g j
syndrome_add t n f g j =
    syndrome_is t n (λ k. f k ⊕ g k) j ∙ moment_add n (X t n) (V t n) f g j ∙ sym (ap₂ ◌⊕◌ (syndrome_is t n f j) (syndrome_is t n g j))

-- ---- the locator's roots are few
all_bytes : (a : List ℕ) → AreBytes a → AllBytes a
all_bytes [] h = tt
all_bytes (c ∷ cs) h = (h 0, all_bytes cs (λ k. h (suc k)))

zero_at : (a : List ℕ) (l : ℕ) → Zero a → get_or a l 0 ≡ 0
zero_at [] l z = refl
zero_at (c ∷ cs) zero z = z.0
zero_at (c ∷ cs) (suc l) z = zero_at cs l z.1

few_of : (n d : ℕ) (x : ℕ → ℕ) (cs : List ℕ) → ((k : ℕ) → k < n → x k < 256) → ((i k : ℕ) → i < k → k < n → x i ≡ x k → ⊥) → length cs ≡ suc d → AllBytes cs → (Zero cs → ⊥)
    → zeros n (λ k. ev cs (x k)) ≤ d
few_of n d x [] hx ap' e b z = absurd (omega arith)
few_of n d x (c ∷ cs) hx ap' e b z = le_trans (few_roots n x hx ap' c cs b z) (omega arith)

take_bytes : (m : ℕ) (a : List ℕ) → AreBytes a → AreBytes (take m a)
take_bytes zero a h k = omega arith
take_bytes (suc m) [] h k = omega arith
take_bytes (suc m) (c ∷ a) h zero = h 0
take_bytes (suc m) (c ∷ a) h (suc k) = take_bytes m a (λ i. h (suc i)) k

module _ (limit n : ℕ) (x : ℕ → ℕ) (a marks : List ℕ) (hl : limit ≤ 8) (hx : (k : ℕ) → k < n → x k < 256) (apart : (i k : ℕ) → i < k → k < n → x i ≡ x k → ⊥) (la : length a ≡ 9) (ba : AreBytes a)
    (one : (l : ℕ) × (l ≤ limit) × (get_or a l 0 ≡ 1)) (hm : (k : ℕ) → k < n → get_or marks k 0 ≡ sum (suc limit) (λ l. get_or a l 0 ⊗ gpow (x k) l)) where
  few_marks : zeros n (λ k. get_or marks k 0) ≤ limit
  few_marks =
      le_trans (zeros_le n (λ k. get_or marks k 0) (λ k. ev cs (x k)) (λ k l z. same k ∙ sym (hm k l) ∙ z))
      (few_of n limit x cs hx apart lc (all_bytes cs (take_bytes (suc limit) a ba)) nz)
    where
      cs : List ℕ
      cs = take (suc limit) a

      lc : length cs ≡ suc limit
      lc = length-take-le (suc limit) a (omega arith)

      same : (k : ℕ) → ev cs (x k) ≡ sum (suc limit) (λ l. get_or a l 0 ⊗ gpow (x k) l)
      same k =
          ev_sum cs (x k) (all_bytes cs (take_bytes (suc limit) a ba)) ∙ ap (λ (m : ℕ). sum m (λ l. get_or cs l 0 ⊗ gpow (x k) l)) lc
          ∙ sum_same (suc limit) (λ l. get_or cs l 0 ⊗ gpow (x k) l) (λ l. get_or a l 0 ⊗ gpow (x k) l) (λ l m. ap (λ (y : ℕ). y ⊗ gpow (x k) l) (get_or-take (suc limit) a l 0 m))

      nz : Zero cs → ⊥
      nz z =
          let p : get_or cs one.0 0 ≡ 1 = get_or-take (suc limit) a one.0 0 (omega (arith, one.1)) ∙ one.2 in
          let q : ◌≡◌ {A = ℕ} 0 1 = sym (zero_at cs one.0 z) ∙ p in omega arith

module _ (size limit most : ℕ) (hl : limit ≤ 8) (hs : size ≤ 239) (hm : most ≤ limit) (old : List ℕ) (lo : length old ≡ 2 * limit + size) (bo : AreBytes old) where
  -- ---- the block is an outer word
  pub clean : ((j : ℕ) → j < 2 * limit → syndrome (2 * limit) (length old) (word old) j ≡ 0) → Corrected size limit most old old 0
  clean s =
      record {
        outer = outer;
        counted = self;
        few = omega arith;
        only = λ w o h. only_one size limit hl hs old w old lo o outer (omega arith) (omega (arith, self));
      }
    where
      outer : Outer size limit old
      outer = syndromes_outer size limit hl hs old lo bo (λ j h. subst (λ (n : ℕ). syndrome (2 * limit) n (word old) j ≡ 0) lo (s j h))

      self : differing old old ≡ 0
      self = count_none (length old) (λ k. word old k ⊕ word old k) (λ k l. add_self (word old k))

  -- ---- errors that explain the syndromes make it one
  pub accepted : (new e : List ℕ) (wrong : ℕ) → length new ≡ length old → AreBytes new
      → ((j : ℕ) → j < 2 * limit → syndrome (2 * limit) (length old) (word old) j ≡ syndrome (2 * limit) (length old) (word e) j)
      → ((q : ℕ) → q < length old → get_or new q 0 ≡ get_or old q 0 ⊕ get_or e q 0) → wrong ≡ count (length old) (word e) → wrong ≤ most → Corrected size limit most old new wrong
  accepted new e wrong ln bn s h c few =
      record {
        outer = outer;
        counted = counted;
        few = few;
        only = λ w o near. only_one size limit hl hs old w new lo o outer (omega arith) (omega (arith, counted));
      }
    where
      vanishes : (j : ℕ) → j < 2 * limit → syndrome (2 * limit) (length old) (word new) j ≡ 0
      vanishes j l =
          syndrome_same (2 * limit) (length old) (word new) (λ q. word old q ⊕ word e q) h j ∙ syndrome_add (2 * limit) (length old) (word old) (word e) j
          ∙ zero_if_same (syndrome (2 * limit) (length old) (word old) j) (syndrome (2 * limit) (length old) (word e) j) (s j l)

      outer : Outer size limit new
      outer = syndromes_outer size limit hl hs new (ln ∙ lo) bn (λ j l. subst (λ (n : ℕ). syndrome (2 * limit) n (word new) j ≡ 0) lo (vanishes j l))

      counted : differing old new ≡ wrong
      counted =
          count_same (length old) (λ k. word old k ⊕ word new k) (word e) (λ k l. ap (λ (y : ℕ). word old k ⊕ y) (h k l) ∙ back (word old k) (word e k)) ∙ sym c

  -- ---- a block near an outer word has errors that the syndromes give away
  module _ (s a marks : List ℕ) (sums : (j : ℕ) → j < 2 * limit → get_or s j 0 ≡ syndrome (2 * limit) (length old) (word old) j) (la : length a ≡ 9) (ba : AreBytes a)
      (one : (l : ℕ) × (l ≤ limit) × (get_or a l 0 ≡ 1)) (vanish : (j : ℕ) → j < limit → sum (suc limit) (λ l. get_or a l 0 ⊗ get_or s (j + l) 0) ≡ 0)
      (hmarks : (k : ℕ) → k < length old → get_or marks k 0 ≡ sum (suc limit) (λ l. get_or a l 0 ⊗ gpow (X (2 * limit) (length old) k) l)) where
    -- the error of each byte
    abbrev err : List ℕ → ℕ → ℕ
    err w q = word old q ⊕ word w q

    fx : (k : ℕ) → k < length old → X (2 * limit) (length old) k < 256
    fx = X_lt (2 * limit) (length old) (omega arith) (omega arith) (omega arith)

    fa : (i k : ℕ) → i < k → k < length old → X (2 * limit) (length old) i ≡ X (2 * limit) (length old) k → ⊥
    fa = X_apart (2 * limit) (length old) (omega arith) (omega arith) (omega arith)

    vanishes : (w : List ℕ) → Outer size limit w → (j : ℕ) → j < 2 * limit → moment (length old) (X (2 * limit) (length old)) (V (2 * limit) (length old)) (word w) j ≡ 0
    vanishes w o j h =
        sym (syndrome_is (2 * limit) (length old) (word w) j) ∙ subst (λ (n : ℕ). syndrome (2 * limit) n (word w) j ≡ 0) (sym lo) (outer_syndromes size limit hl hs w o j h)

    summed : (j : ℕ) → j < 2 * limit → get_or s j 0 ≡ moment (length old) (X (2 * limit) (length old)) (V (2 * limit) (length old)) (word old) j
    summed j h = sums j h ∙ syndrome_is (2 * limit) (length old) (word old) j

    root : (w : List ℕ) → Outer size limit w → differing old w ≤ limit → (q : ℕ) → q < length old → (err w q ≡ 0 → ⊥) → poly (suc limit) (λ l. get_or a l 0) (X (2 * limit) (length old) q) ≡ 0
    root w o near q l e =
        located (length old) (X (2 * limit) (length old)) (V (2 * limit) (length old)) fx fa
        (V_lt (2 * limit) (length old) (omega arith) (omega arith) (omega arith)) (V_nonzero (2 * limit) (length old) (omega arith) (omega arith) (omega arith)) limit
        (word old) (word w) (λ l. get_or a l 0) (λ k m. bo k) (λ k m. outer_bytes size limit hl hs w o k) (λ j h. vanishes w o j (omega arith)) near
        (λ j h. sum_same (suc limit) (λ l. get_or a l 0 ⊗ moment (length old) (X (2 * limit) (length old)) (V (2 * limit) (length old)) (word old) (j + l)) (λ l. get_or a l 0 ⊗ get_or s (j + l) 0)
        (λ l m. ap (λ (y : ℕ). get_or a l 0 ⊗ y) (sym (summed (j + l) (omega arith)))) ∙ vanish j h)
        q l e

    marked : (q : ℕ) → q < length old → poly (suc limit) (λ l. get_or a l 0) (X (2 * limit) (length old) q) ≡ 0 → get_or marks q 0 ≡ 0
    unfolding poly
    marked q l e = hmarks q l ∙ e

    as_syndrome : (w : List ℕ) (j : ℕ) → sum (length old) (λ k. (err w k ⊗ V (2 * limit) (length old) k) ⊗ gpow (X (2 * limit) (length old) k) j) ≡ syndrome (2 * limit) (length old) (err w) j
    unfolding syndrome
    as_syndrome w j = refl

    pub errors : (w : List ℕ) → Outer size limit w → differing old w ≤ limit → Errors limit (length old) s marks (λ q. word old q ⊕ word w q)
    errors w o near =
        record {
          explained = λ j h. summed j h ∙ sums_of_error (length old) (X (2 * limit) (length old)) (V (2 * limit) (length old)) (word old) (word w) j (vanishes w o j h) ∙ as_syndrome w j;
          outside = λ q l nz. outside q l nz (ℕ_discrete (err w q) 0);
          bytes = λ q l. add_lt (word old q) (word w q) (bo q) (outer_bytes size limit hl hs w o q);
          few = few_marks limit (length old) (X (2 * limit) (length old)) a marks hl fx fa la ba one hmarks;
        }
      where
        outside : (q : ℕ) → q < length old → (get_or marks q 0 ≡ 0 → ⊥) → Dec (err w q ≡ 0) → err w q ≡ 0
        outside q l nz (yes e) = e
        outside q l nz (no e) = absurd (nz (marked q l (root w o near q l e)))

    -- errors that are too many, or explain nothing, are those of no outer word that is near
    pub refused : (e : List ℕ) (wrong : ℕ) → ((f : ℕ → ℕ) → Errors limit (length old) s marks f → (q : ℕ) → q < length old → get_or e q 0 ≡ f q) → wrong ≡ count (length old) (word e)
        → (most < wrong) ⊎ (((j : ℕ) → j < 2 * limit → get_or s j 0 ≡ syndrome (2 * limit) (length old) (word e) j) → ⊥)
        → (w : List ℕ) → Outer size limit w → differing old w ≤ most → ⊥
    refused e wrong h c why w o near = by why
      where
        found : Errors limit (length old) s marks (err w)
        found = errors w o (omega arith)

        same : (q : ℕ) → q < length old → word e q ≡ err w q
        same = h (err w) found

        by : (most < wrong) ⊎ (((j : ℕ) → j < 2 * limit → get_or s j 0 ≡ syndrome (2 * limit) (length old) (word e) j) → ⊥) → ⊥
        by (inl l) = let d : wrong ≡ differing old w = c ∙ count_same (length old) (word e) (err w) same in omega arith
        by (inr n) = n (λ j l. found.explained j l ∙ sym (syndrome_same (2 * limit) (length old) (word e) (err w) same j))
