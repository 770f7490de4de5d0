-- A stage's branches, as a count of its cells and as the entries that are looked for.
-- Assumes nothing.
use Rattle.std.proofs.Common.{◌≡◌, ℕ, zero, suc, ◌+◌, ◌/◌, ◌%◌, ◌<◌, ◌≤◌, Bool, true, false, eqb, List, [], ◌∷◌, length, take, get_or, Some, None, Option, refl, sym, ap, ◌∙◌, ⊎_elim, add-one, eq-eqb, arith}
use Rattle.std.specs.List.{count_by}
use Rattle.std.proofs.lemmas.Bool.{cases_lt}
use Rattle.std.proofs.lemmas.List.{get_or_past}
use Rattle.std.proofs.lemmas.List.Sums.{count_by_more_yes, count_by_more_no}
use Rattle.paths.specs.Registers.{digit}
use Rattle.trellis.specs.declared.trellis.Branch.{Branch}
use Rattle.search_check.specs.Small.{Cells, cell, toll, leads, leads_to, count, find, as_entry}
use Rattle.search_check.specs.SmallLaws.{At, find_sound, find_complete}

take_all : {A : Type 0} (xs : List A) (n : ℕ) → length xs ≤ n → take n xs ≡ xs
take_all [] zero h = refl
take_all [] (suc n) h = refl
take_all (x ∷ xs) zero h = absurd (omega arith)
take_all (x ∷ xs) (suc n) h = ap (λ ys. x ∷ ys) (take_all xs n (omega arith))

-- of one branch more, which may be past the end
more : (p : Option Branch → Bool) (row : List (Option Branch)) (j : ℕ) (b : Bool) → p None ≡ false → p (get_or row j None) ≡ b → count_by p (take (j + 1) row) ≡ count_by p (take j row) + digit b
more p row j b none e = ⊎_elim (within b e) past (cases_lt j (length row))
  where
    within : (b : Bool) → p (get_or row j None) ≡ b → j < length row → count_by p (take (j + 1) row) ≡ count_by p (take j row) + digit b
    within true e l = count_by_more_yes p row j None l e
    within false e l = let y = count_by_more_no p row j None l e in omega arith

    past : length row ≤ j → count_by p (take (j + 1) row) ≡ count_by p (take j row) + digit b
    past l =
        let d : digit b ≡ 0 = ap digit (sym e ∙ (ap p (get_or_past row j None l) ∙ none)) in
        let x : count_by p (take (j + 1) row) ≡ count_by p row = ap (count_by p) (take_all row (j + 1) (omega arith)) in
        let y : count_by p (take j row) ≡ count_by p row = ap (count_by p) (take_all row j l) in
        omega arith

pub counts : (cells : Cells) (k t j : ℕ) → count cells k t j ≡ count_by (leads_to t) (take j (get_or cells k []))
unfolding count
counts cells k t zero = refl
counts cells k t (suc j) =
    let ih = counts cells k t j in
    let m = more (leads_to t) (get_or cells k []) j (leads cells k t j) refl refl in
    let z : count_by (leads_to t) (take (suc j) (get_or cells k [])) ≡ count_by (leads_to t) (take (j + 1) (get_or cells k [])) = ap (λ n. count_by (leads_to t) (take n (get_or cells k []))) (sym (add-one j)) in
    omega arith

-- the branch at hand is the one that is looked for
pub at_hand : (cells : Cells) (k t i n j : ℕ) (b : Branch) → j < n → cell cells k j ≡ Some b → b.to ≡ t → count cells k t j ≡ i → Some (j / 2, eqb (j % 2) 1, b.cost) ≡ as_entry cells k (find cells k t i n)
at_hand cells k t i n j b low e to nth =
    let there : leads cells k t j ≡ true = ap (leads_to t) e ∙ eq-eqb _ _ to in
    let f = find_complete cells k t i n j (record { low = low; there = there; nth = nth }) in
    sym (ap (as_entry cells k) f ∙ ap (λ c. Some (j / 2, eqb (j % 2) 1, toll c)) e)

-- it is none of all
pub at_none : (cells : Cells) (k t i n : ℕ) → ((j : ℕ) → At cells k t i n j → ⊥) → None ≡ as_entry cells k (find cells k t i n)
at_none cells k t i n nowhere = by (find cells k t i n) refl
  where
    by : (o : Option ℕ) → find cells k t i n ≡ o → None ≡ as_entry cells k (find cells k t i n)
    by None e = sym (ap (as_entry cells k) e)
    by (Some j) e = absurd (nowhere j (find_sound cells k t i n j e))
