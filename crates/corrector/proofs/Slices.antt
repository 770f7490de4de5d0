-- A part of a list, lent and put back.
-- Assumes nothing.
use Rattle.std.proofs.Common.{◌≡◌, ℕ, zero, suc, Bool, ◌+◌, ◌-◌, ◌<◌, ◌≤◌, not, eqb, List, ◌∷◌, ◌++◌, length, get_or, take, drop, replicate, sym, refl, ap, ◌∙◌, subst, arith, count_by, cond, ne_eqb}
use borrow.Rule.Slice.PartMut.{mid_of, post_of, put_mid, mid_len}
use Rattle.std.proofs.lemmas.List.Recursion.{is_count_by}
use Rattle.std.proofs.lemmas.List.{length-take-le, get_or_append_left, get_or-append_right, get_or-take, get_or-drop, get_or-replicate, length-replicate, ext_get_or}
use Rattle.field.specs.Field.{◌⊕◌}
use Rattle.field.proofs.Field.{zero_add}
use Rattle.outer_theory.specs.Sums.{count, one_if}
use Rattle.words.specs.Words.{word, part}
use Rattle.words.proofs.Bridge.{length_listed, get_or_listed}

module _ (a n : ℕ) (xs : List ℕ) (h : a + n ≤ length xs) where
  before_length : length (take a xs) ≡ a
  before_length = length-take-le a xs (omega arith)

  -- the block
  pub part_mid : part n a (word xs) ≡ mid_of a (a + n - a) xs
  part_mid =
      ext_get_or 0 (part n a (word xs)) (mid_of a (a + n - a) xs) (length_listed n (λ i. word xs (a + i)) ∙ sym (mid_len a (a + n) xs h ∙ let e : a + n - a ≡ n = omega arith in e))
      (λ k l. (let b : k < n = subst (λ (m : ℕ). k < m) (length_listed n (λ i. word xs (a + i))) l in
      get_or_listed n (λ i. word xs (a + i)) k b ∙ sym (get_or-take (a + n - a) (drop a xs) k 0 (omega arith) ∙ get_or-drop a xs k 0)))

  module _ (ys : List ℕ) (ly : length ys ≡ n) where
    -- the row with ys in its place
    abbrev row : List ℕ
    row = put_mid a (a + n - a) xs ys

    pub part_put : part n a (word row) ≡ ys
    part_put =
        ext_get_or 0 (part n a (word row)) ys (length_listed n (λ i. word row (a + i)) ∙ sym ly)
        (λ k l. (let b : k < n = subst (λ (m : ℕ). k < m) (length_listed n (λ i. word row (a + i))) l in
        get_or_listed n (λ i. word row (a + i)) k b
        ∙ get_or-append_right (take a xs) (ys ++ post_of a (a + n - a) xs) a (a + k) 0 before_length (omega arith)
        ∙ ap (λ (m : ℕ). get_or (ys ++ post_of a (a + n - a) xs) m 0) (let e : a + k - a ≡ k = omega arith in e)
        ∙ get_or_append_left ys (post_of a (a + n - a) xs) 0 k (omega arith)))

-- the first values of a list of zeros, after f was added to each
pub added_front : (ys rest : List ℕ) (n m : ℕ) (f : ℕ → ℕ) → length ys ≡ n → n ≤ m → ((j : ℕ) → j < length (take n (replicate {A = ℕ} m 0)) → get_or ys j 0 ≡ get_or (take n (replicate m 0)) j 0 ⊕ f j)
    → (j : ℕ) → j < n → get_or (ys ++ rest) j 0 ≡ f j
added_front ys rest n m f long few h j l =
    get_or_append_left ys rest 0 j (omega arith)
    ∙ h j (omega (arith, length-take-le n (replicate {A = ℕ} m 0) (omega (arith, length-replicate {A = ℕ} m 0))))
    ∙ ap (λ (y : ℕ). y ⊕ f j) (get_or-take n (replicate m 0) j 0 l ∙ get_or-replicate m j 0 0 (omega arith)) ∙ zero_add (f j)

-- lists that begin alike
pub same_taken : (n : ℕ) (xs ys : List ℕ) → take n xs ≡ take n ys → (j : ℕ) → j < n → get_or xs j 0 ≡ get_or ys j 0
same_taken n xs ys e j l = sym (get_or-take n xs j 0 l) ∙ ap (λ (zs : List ℕ). get_or zs j 0) e ∙ get_or-take n ys j 0 l

pub taken_same : (n : ℕ) (xs ys : List ℕ) → n ≤ length xs → n ≤ length ys → ((j : ℕ) → j < n → get_or xs j 0 ≡ get_or ys j 0) → take n xs ≡ take n ys
taken_same n xs ys hx hy h =
    ext_get_or 0 (take n xs) (take n ys) (lx ∙ sym (length-take-le n ys hy))
    (λ k l. let b : k < n = subst (λ (m : ℕ). k < m) lx l in get_or-take n xs k 0 b ∙ h k b ∙ sym (get_or-take n ys k 0 b))
  where
    lx : length (take n xs) ≡ n
    lx = length-take-le n xs hx

-- how many are not 0
count_front : (n : ℕ) (f : ℕ → ℕ) → count (suc n) f ≡ one_if (f 0) + count n (λ k. f (suc k))
unfolding count
count_front zero f = omega arith
count_front (suc n) f = omega (arith, count_front n f)

pub count_is : (xs : List ℕ) → count (length xs) (word xs) ≡ count_by (λ x. not (eqb x 0)) xs
unfolding count
count_is = is_count_by (λ xs. count (length xs) (word xs)) (λ x. not (eqb x 0)) refl more
  where
    more : (x : ℕ) (xs : List ℕ) → count (suc (length xs)) (word (x ∷ xs)) ≡ cond (not (eqb x 0)) (1 + count (length xs) (word xs)) (count (length xs) (word xs))
    more zero xs = omega (arith, count_front (length xs) (word (zero ∷ xs)))
    more (suc x) xs =
        count_front (length xs) (word (suc x ∷ xs))
        ∙ sym (ap (λ (b : Bool). cond (not b) (1 + count (length xs) (word xs)) (count (length xs) (word xs))) (ne_eqb (suc x) 0 (λ e. omega arith)))
