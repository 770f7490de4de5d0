-- The rows that make syndromes vanish, step by step.
-- Assumes nothing.
use Rattle.std.proofs.Common.{◌≡◌, ℕ, zero, suc, ◌+◌, ◌<◌, ◌≤◌, Bool, true, false, ◌≢◌, List, length, get_or, set, Option, None, Some, sym, refl, ap, ◌∙◌, subst, ap₂, le_of_suc-le-suc, arith, get_or-set_other, get_or-set_same}
use native.Mathlib.Decide.{ℕ_discrete}
use Rattle.field.specs.Field.{◌⊕◌, ◌⊗◌}
use Rattle.field.proofs.Field.{add_zero, add_mul, mul_assoc, mul_zero, mul_one, mul_lt}
use Rattle.outer_theory.specs.Sums.{sum, count, one_if}
use Rattle.words.specs.Words.{digit, flags}
use Rattle.outer_theory.proofs.Rows.{at, applied, left_in, Triangular, Reduced, Swept}
use Rattle.field.proofs.Powers.{zero_if_same}
use Rattle.outer_theory.proofs.Sums.{sum_same, sum_add, sum_mul, sum_lt, count_le, count_all}

applied_lt : (limit : ℕ) (rows : List (List ℕ)) (r : ℕ) (s : List ℕ) (j : ℕ) → applied limit rows r s j < 256
unfolding applied
applied_lt limit rows r s j = sum_lt (suc limit) (λ l. at rows r l ⊗ get_or s (j + l) 0) (λ l h. mul_lt (at rows r l) (get_or s (j + l) 0))

applied_same : (limit : ℕ) (rows new : List (List ℕ)) (r : ℕ) → ((l : ℕ) → l ≤ limit → at new r l ≡ at rows r l) → (s : List ℕ) (j : ℕ) → applied limit new r s j ≡ applied limit rows r s j
unfolding applied
applied_same limit rows new r h s j =
    sum_same (suc limit) (λ l. at new r l ⊗ get_or s (j + l) 0) (λ l. at rows r l ⊗ get_or s (j + l) 0) (λ l m. ap (λ (y : ℕ). y ⊗ get_or s (j + l) 0) (h l (le_of_suc-le-suc m)))

applied_add : (limit : ℕ) (rows new : List (List ℕ)) (r p c : ℕ) → ((l : ℕ) → l ≤ limit → at new r l ≡ at rows r l ⊕ (c ⊗ at rows p l)) → (s : List ℕ) (j : ℕ)
    → applied limit new r s j ≡ applied limit rows r s j ⊕ (c ⊗ applied limit rows p s j)
unfolding applied
applied_add limit rows new r p c h s j =
    sum_same (suc limit) (λ l. at new r l ⊗ get_or s (j + l) 0) (λ l. (at rows r l ⊗ get_or s (j + l) 0) ⊕ (c ⊗ (at rows p l ⊗ get_or s (j + l) 0)))
    (λ l m. ap (λ (y : ℕ). y ⊗ get_or s (j + l) 0) (h l (le_of_suc-le-suc m)) ∙ add_mul (at rows r l) (c ⊗ at rows p l) (get_or s (j + l) 0)
    ∙ ap (λ (y : ℕ). (at rows r l ⊗ get_or s (j + l) 0) ⊕ y) (mul_assoc c (at rows p l) (get_or s (j + l) 0)))
    ∙ sum_add (suc limit) (λ l. at rows r l ⊗ get_or s (j + l) 0) (λ l. c ⊗ (at rows p l ⊗ get_or s (j + l) 0))
    ∙ ap (λ (y : ℕ). sum (suc limit) (λ l. at rows r l ⊗ get_or s (j + l) 0) ⊕ y) (sum_mul (suc limit) c (λ l. at rows p l ⊗ get_or s (j + l) 0))

-- c is a / d
pub cleared : (limit : ℕ) (rows new : List (List ℕ)) (r p c i : ℕ) (s : List ℕ) (j : ℕ) → ((l : ℕ) → l ≤ limit → at new r l ≡ at rows r l ⊕ (c ⊗ at rows p l))
    → c ≡ applied limit rows r s j ⊗ i → i ⊗ applied limit rows p s j ≡ 1 → applied limit new r s j ≡ 0
cleared limit rows new r p c i s j h e q =
    applied_add limit rows new r p c h s j
    ∙ zero_if_same (applied limit rows r s j) (c ⊗ applied limit rows p s j)
    (sym (ap (λ (y : ℕ). y ⊗ applied limit rows p s j) e ∙ mul_assoc (applied limit rows r s j) i (applied limit rows p s j)
    ∙ ap (λ (y : ℕ). applied limit rows r s j ⊗ y) q ∙ mul_one (applied limit rows r s j) (applied_lt limit rows r s j)))

-- the shape stays when an earlier row is added
shape_added : (limit : ℕ) (rows new : List (List ℕ)) (r p c : ℕ) → limit ≤ 8 → p < r → r ≤ limit → Triangular limit rows → ((i l : ℕ) → l < 9 → (i ≡ r → ⊥) → at new i l ≡ at rows i l)
    → ((l : ℕ) → l ≤ limit → at new r l ≡ at rows r l ⊕ (c ⊗ at rows p l)) → Triangular limit new
shape_added limit rows new r p c hl hp hr sh other changed =
    record {
      diagonal = λ i h. diagonal i h (ℕ_discrete i r);
      behind = λ i l a b. behind i l a b (ℕ_discrete i r);
    }
  where
    diagonal : (i : ℕ) → i ≤ limit → Dec (i ≡ r) → at new i i ≡ 1
    diagonal i h (no n) = other i i (omega arith) n ∙ sh.diagonal i h
    diagonal i h (yes e) =
        subst (λ (m : ℕ). at new m m ≡ 1) (sym e)
        (changed r hr ∙ ap₂ ◌⊕◌ (sh.diagonal r hr) (ap (λ (y : ℕ). c ⊗ y) (sh.behind p r hp hr) ∙ mul_zero c) ∙ add_zero 1)

    behind : (i l : ℕ) → i < l → l ≤ limit → Dec (i ≡ r) → at new i l ≡ 0
    behind i l a b (no n) = other i l (omega arith) n ∙ sh.behind i l a b
    behind i l a b (yes e) =
        subst (λ (m : ℕ). at new m l ≡ 0) (sym e)
        (changed l b ∙ ap₂ ◌⊕◌ (sh.behind r l (omega arith) b) (ap (λ (y : ℕ). c ⊗ y) (sh.behind p l (omega arith) b) ∙ mul_zero c) ∙ add_zero 0)

-- row r vanishes already, or is not left
pub swept_pass : (limit : ℕ) (rows : List (List ℕ)) (left : List Bool) (s : List ℕ) (j r : ℕ) (p : Option ℕ) → Swept limit rows left s j r p → (flags left r ≡ true → applied limit rows r s j ≡ 0) → Swept limit rows left s j (r + 1) p
swept_pass limit rows left s j r p w h =
    record {
      shape = w.shape;
      kernel = w.kernel;
      before = λ i l n q. step i n q (ℕ_discrete i r) l;
      found = λ k e. let f = w.found k e in (omega arith, f.1, f.2);
    }
  where
    step : (i : ℕ) → flags left i ≡ true → (p ≡ Some i → ⊥) → Dec (i ≡ r) → i < r + 1 → applied limit rows i s j ≡ 0
    step i n q (yes e) l = subst (λ (m : ℕ). flags left m ≡ true → applied limit rows m s j ≡ 0) (sym e) h n
    step i n q (no ne) l = w.before i (omega arith) n q

-- row r is the first that does not vanish
pub swept_pivot : (limit : ℕ) (rows : List (List ℕ)) (left : List Bool) (s : List ℕ) (j r : ℕ) → Swept limit rows left s j r None → flags left r ≡ true → (applied limit rows r s j ≡ 0 → ⊥) → Swept limit rows left s j (r + 1) (Some r)
swept_pivot limit rows left s j r w n a =
    record {
      shape = w.shape;
      kernel = w.kernel;
      before = λ i l m q. step i m q (ℕ_discrete i r) l;
      found = λ k e. found k (cc);
    }
  where
    step : (i : ℕ) → flags left i ≡ true → (Some r ≡ Some i → ⊥) → Dec (i ≡ r) → i < r + 1 → applied limit rows i s j ≡ 0
    step i m q (yes e) l = absurd (q (ap Some (sym e)))
    step i m q (no ne) l = w.before i (omega arith) m (λ z. cc)

    found : (k : ℕ) → r ≡ k → (k < r + 1) × (applied limit rows k s j ≡ 0 → ⊥) × (flags left k ≡ true)
    found k e = subst (λ (m : ℕ). (m < r + 1) × (applied limit rows m s j ≡ 0 → ⊥) × (flags left m ≡ true)) e (omega arith, a, n)

-- row r was cleared by the pivot
pub swept_clear : (limit : ℕ) (rows new : List (List ℕ)) (left : List Bool) (s : List ℕ) (j r p : ℕ) → limit ≤ 8 → r ≤ limit → Swept limit rows left s j r (Some p) → flags left r ≡ true
    → ((i l : ℕ) → l < 9 → (i ≡ r → ⊥) → at new i l ≡ at rows i l)
    → ((c : ℕ) × ((l : ℕ) → l ≤ limit → at new r l ≡ at rows r l ⊕ (c ⊗ at rows p l))) → applied limit new r s j ≡ 0 → Swept limit new left s j (r + 1) (Some p)
swept_clear limit rows new left s j r p hl hr w nr other changed gone =
    record {
      shape = shape_added limit rows new r p changed.0 hl earlier hr w.shape other changed.1;
      kernel = λ i h n k l. kernel i h n k l (ℕ_discrete i r);
      before = λ i l n q. before i l n q (ℕ_discrete i r);
      found = λ k e. (let f = w.found k e in (omega arith, λ z. f.1 (sym (same k (λ q. omega arith) j) ∙ z), f.2));
    }
  where
    earlier : p < r
    earlier = (w.found p refl).0

    same : (i : ℕ) → (i ≡ r → ⊥) → (k : ℕ) → applied limit new i s k ≡ applied limit rows i s k
    same i n k = applied_same limit rows new i (λ l h. other i l (omega arith) n) s k

    kernel : (i : ℕ) → i ≤ limit → flags left i ≡ true → (k : ℕ) → k < j → Dec (i ≡ r) → applied limit new i s k ≡ 0
    kernel i h n k l (no ne) = same i ne k ∙ w.kernel i h n k l
    kernel i h n k l (yes e) =
        subst (λ (m : ℕ). applied limit new m s k ≡ 0) (sym e)
        (applied_add limit rows new r p changed.0 changed.1 s k
        ∙ ap₂ ◌⊕◌ (w.kernel r hr nr k l) (ap (λ (y : ℕ). changed.0 ⊗ y) (w.kernel p (omega (arith, earlier)) (w.found p refl).2 k l) ∙ mul_zero changed.0) ∙ add_zero 0)

    before : (i : ℕ) → i < r + 1 → flags left i ≡ true → (Some p ≡ Some i → ⊥) → Dec (i ≡ r) → applied limit new i s j ≡ 0
    before i l n q (no ne) = same i ne j ∙ w.before i (omega arith) n q
    before i l n q (yes e) = subst (λ (m : ℕ). applied limit new m s j ≡ 0) (sym e) gone

-- one sum more
count_off : (n p : ℕ) (f g : ℕ → ℕ) → ((k : ℕ) → k ≢ p → f k ≡ g k) → count n f ≤ count n g + 1
unfolding count
count_off zero p f g h = omega arith
count_off (suc n) p f g h =
    elim (ℕ_discrete n p) [
      | yes e ↦ omega (arith, count_le n g f (λ k l z. h k (λ q. omega arith) ∙ z), most (f n))
      | no ne ↦ (let q : one_if (f n) ≡ one_if (g n) = ap one_if (h n ne) in omega (arith, count_off n p f g h))
    ]
  where
    most : (a : ℕ) → one_if a ≤ 1
    most zero = omega arith
    most (suc a) = omega arith

left_set : (n p : ℕ) (left : List Bool) → left_in n left ≤ left_in n (set left p false) + 1
left_set n p left =
    count_off n p (λ k. digit (flags left k)) (λ k. digit (flags (set left p false) k))
    (λ k ne. ap digit (sym (get_or-set_other left p k false false ne)))

pub reduced_one : (limit : ℕ) (rows : List (List ℕ)) (left : List Bool) (s : List ℕ) (j p : ℕ) → limit < length left → Swept limit rows left s j (limit + 1) (Some p) → suc limit ≤ left_in (suc limit) left + j
    → Reduced limit rows (set left p false) s (j + 1)
reduced_one limit rows left s j p long w m =
    record { shape = w.shape; kernel = λ r h n i l. step r h (ℕ_discrete r p) n i l (ℕ_discrete i j); many = omega (arith, left_set (suc limit) p left) }
  where
    here : flags (set left p false) p ≡ false
    here = get_or-set_same left p false false (let f : p < limit + 1 = (w.found p refl).0 in omega arith)

    step : (r : ℕ) → r ≤ limit → Dec (r ≡ p) → flags (set left p false) r ≡ true → (i : ℕ) → i < j + 1 → Dec (i ≡ j) → applied limit rows r s i ≡ 0
    step r h (yes q) n i l d = absurd (let e : flags (set left p false) r ≡ false = ap (flags (set left p false)) q ∙ here in cc)
    step r h (no q) n i l (yes e) =
        subst (λ (k : ℕ). applied limit rows r s k ≡ 0) (sym e) (w.before r (omega arith) (sym (get_or-set_other left p r false false q) ∙ n) (λ z. q (cc)))
    step r h (no q) n i l (no ne) = w.kernel r h (sym (get_or-set_other left p r false false q) ∙ n) i (omega arith)

pub reduced_start : (limit : ℕ) (rows : List (List ℕ)) (left : List Bool) (s : List ℕ) → limit ≤ 8 → Triangular limit rows → ((k : ℕ) → k < 9 → flags left k ≡ true) → Reduced limit rows left s 0
reduced_start limit rows left s hl sh all_left =
    record { shape = sh; kernel = λ r h n i l. absurd (omega arith); many = omega (arith, count_all (suc limit) (λ r. digit (flags left r)) (λ k l. ap digit (all_left k (omega arith)))) }

pub row_vanishes : (limit : ℕ) (rows : List (List ℕ)) (left : List Bool) (s : List ℕ) (j r : ℕ) → limit ≤ 8 → Reduced limit rows left s j → limit ≤ j → r ≤ limit → flags left r ≡ true
    → (i : ℕ) → i < limit → sum (suc limit) (λ l. at rows r l ⊗ get_or s (i + l) 0) ≡ 0
unfolding applied
row_vanishes limit rows left s j r hl d hj hr n i l = d.kernel r hr n i (omega arith)
