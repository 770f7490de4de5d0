-- Filled tables, past their ends too.
-- Assumes nothing.
use Rattle.std.proofs.Common.{◌≡◌, ℕ, ◌<◌, Bool, true, false, cond, ltb, List, length, get_or, sym, refl, subst, ⊎_elim, arith, ltb-true, ltb-false}
use Rattle.std.proofs.lemmas.Bool.{cases_lt}
use Rattle.std.proofs.lemmas.List.{get_or_past}
use Rattle.search_bench.specs.Tables.{weight, total}

-- what holds of each element, and of what stands past the end, holds at every place
pub filled : {A : Type 0} (P : A → Type 0) (xs : List A) (n : ℕ) (d : A) → length xs ≡ n → ((k : ℕ) → k < n → P (get_or xs k d)) → P d → (k : ℕ) → P (get_or xs k d)
filled P xs n d long each past k = ⊎_elim (each k) (λ h. subst P (sym (get_or_past xs k d (omega arith))) past) (cases_lt k n)

-- the same of a table by kinds, beside their totals
pub by_kind : {A : Type 0} (P : ℕ → A → Type 0) (xs : List A) (d : A) → length xs ≡ 256 → ((k : ℕ) → k < 256 → P (weight k) (get_or xs k d)) → P 0 d → (k : ℕ) → P (total k) (get_or xs k d)
by_kind P xs d long each past k = by (ltb k 256) refl
  where
    by : (b : Bool) → ltb k 256 ≡ b → P (cond b (weight k) 0) (get_or xs k d)
    by true e = each k (ltb-true _ _ e)
    by false e = let h = ltb-false _ _ e in subst (P 0) (sym (get_or_past xs k d (omega arith))) past
