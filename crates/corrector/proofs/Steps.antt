-- One turn of the loops over rows and blocks.
-- Assumes nothing.
use Rattle.std.proofs.Common.{◌≡◌, ℕ, zero, suc, ◌+◌, ◌<◌, ◌≤◌, ◌≢◌, Bool, true, false, eqb, [], ◌∷◌, Option, Some, None, List, rules, length, get_or, take, set, sym, refl, ap, ◌∙◌, ap₂, le_refl, add-one, arith, eq-eqb, ne_eqb, get_or-set_other, get_or-set_same, below_more}
use native.Mathlib.Decide.{dec_le}
use Rattle.std.proofs.lemmas.List.{length-take-le, get_or-take}
use Rattle.std.proofs.lemmas.List.Quantifiers.{position-Some}
use Rattle.std.specs.List.{position}
use Rattle.std.specs.Option.{IsSome}
use lib.Bits.{bit_xor}
use Rattle.field.specs.Field.{◌⊕◌, ◌⊗◌}
use Rattle.outer_code.proofs.Filled as F
use Rattle.outer_code.proofs.Filled.{Filled}
use Rattle.outer_theory.specs.Sums.{sum}
use Rattle.words.specs.Words.{digit, flags}
use Rattle.outer_theory.proofs.Rows.{at, applied, left_in, Triangular}
use Rattle.outer_theory.proofs.Sums.{sum_suc, sum_same, count_none}

pub filled_more : (s : List ℕ) (j v : ℕ) (P : ℕ → ℕ) → j < length s → ((k : ℕ) → k < j → get_or s k 0 ≡ P k) → v ≡ P j → (k : ℕ) → k < j + 1 → get_or (set s j v) k 0 ≡ P k
filled_more s j v P h a e =
    below_more (λ k. get_or (set s j v) k 0 ≡ P k) j (λ k l. let ne : k ≢ j = omega arith in rw get_or-set_other (a k l)) (rw get_or-set_same e)

-- one more term of a sum
pub sum_more : (n s r : ℕ) (f : ℕ → ℕ) → s ≡ sum n f → r ≡ f n → bit_xor s r ≡ sum (n + 1) f
unfolding ◌⊕◌
sum_more n s r f a b = ap₂ bit_xor a b ∙ sym (sum_suc n f) ∙ ap (λ (m : ℕ). sum m f) (sym (add-one n))

pub sum_nothing : (f : ℕ → ℕ) → 0 ≡ sum 0 f
unfolding sum
sum_nothing f = refl

-- value k with f k added
abbrev pub added : (ℕ → ℕ) → List ℕ → ℕ → ℕ
added f old k = get_or old k 0 ⊕ f k

pub added_more : (f : ℕ → ℕ) (old s : List ℕ) (k m : ℕ) → k < length old → m ≡ f k → Filled (added f old) 0 k old s → Filled (added f old) 0 (k + 1) old (set s k (bit_xor (get_or s k 0) m))
unfolding ◌⊕◌
added_more f old s k m l e w =
    F.filled_more (added f old) 0 k (bit_xor (get_or s k 0) m) old s w (omega arith) l (ap₂ bit_xor (w.behind k (le_refl k)) e)

-- the unit rows
pub triangular_units : (rows : List (List ℕ)) → ((r l : ℕ) → r < 9 → l < 9 → at rows r l ≡ digit (eqb l r)) → (limit : ℕ) → limit ≤ 8 → Triangular limit rows
triangular_units rows u limit h =
    record {
      diagonal = λ r a. u r r (omega arith) (omega arith) ∙ ap digit (eq-eqb r r refl);
      behind = λ r l a b. u r l (omega arith) (omega arith) ∙ ap digit (ne_eqb l r (λ e. omega arith));
    }

-- the terms of the first coefficients
pub sum_taken : (n : ℕ) (a : List ℕ) (g : ℕ → ℕ) → n ≤ length a → sum (length (take n a)) (λ l. get_or (take n a) l 0 ⊗ g l) ≡ sum n (λ l. get_or a l 0 ⊗ g l)
sum_taken n a g h =
    ap (λ (m : ℕ). sum m (λ l. get_or (take n a) l 0 ⊗ g l)) (length-take-le n a h)
    ∙ sum_same n (λ l. get_or (take n a) l 0 ⊗ g l) (λ l. get_or a l 0 ⊗ g l) (λ l b. ap (λ (y : ℕ). y ⊗ g l) (get_or-take n a l 0 b))

-- a row and the syndromes from j on, combined
pub applied_from : (limit : ℕ) (rows : List (List ℕ)) (r : ℕ) (s : List ℕ) (j v : ℕ) (ys : List ℕ) → ((l : ℕ) → l ≤ limit → get_or ys l 0 ≡ get_or s (j + l) 0)
    → v ≡ sum (suc limit) (λ l. at rows r l ⊗ get_or ys l 0) → v ≡ applied limit rows r s j
unfolding applied
applied_from limit rows r s j v ys from e =
    e ∙ sum_same (suc limit) (λ l. at rows r l ⊗ get_or ys l 0) (λ l. at rows r l ⊗ get_or s (j + l) 0) (λ l h. ap (λ (y : ℕ). at rows r l ⊗ y) (from l (omega arith)))

-- no row is left before the first that is
none_left : (n r : ℕ) (left : List Bool) → ((k : ℕ) → k < r → flags left k ≡ false) → n ≤ r → left_in n left ≡ 0
none_left n r left h few = count_none n (λ k. digit (flags left k)) (λ k l. ap digit (h k (omega arith)))

pub row_left : (limit : ℕ) (left : List Bool) (r : ℕ) → position (λ (b : Bool). b) left ≡ Some r → 0 < left_in (suc limit) left → r ≤ limit
row_left limit left r e some =
    let first = (position-Some (λ (b : Bool). b) left r false e).2 in
    elim (dec_le r limit) [
      | yes y ↦ y
      | no n ↦ absurd (let z : left_in (suc limit) left ≡ 0 = none_left (suc limit) r left first (omega (arith, n)) in omega arith)
    ]

-- a row is left
none_true : (left : List Bool) → None ≡ position (λ (b : Bool). b) left → (k : ℕ) → flags left k ≡ false
none_true [] e k = refl
none_true (true ∷ left) e k = absurd (search (rules, e))
none_true (false ∷ left) e zero = refl
none_true (false ∷ left) e (suc k) = none_true left (search (rules, e)) k

pub some_left : (limit : ℕ) (left : List Bool) (p : Option ℕ) → p ≡ position (λ (b : Bool). b) left → 0 < left_in (suc limit) left → IsSome p
some_left limit left None e some =
    absurd (let z : left_in (suc limit) left ≡ 0 = none_left (suc limit) (suc limit) left (λ k l. none_true left e k) (le_refl (suc limit)) in omega arith)
some_left limit left (Some r) e some = search rules
