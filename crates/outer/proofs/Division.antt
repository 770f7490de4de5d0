-- The division by the generator, one byte of the message a time.
-- Assumes nothing.
use Rattle.std.proofs.Common.{◌≡◌, ℕ, suc, ◌+◌, ◌<◌, List, [], ◌∷◌, ◌++◌, length, get_or, take, drop, sym, ap, ◌∙◌, ap₂, arith, rules}
use Rattle.std.proofs.lemmas.List.{ext_get_or, take_more, places}
use Rattle.field.specs.Field.{◌⊕◌, ◌⊗◌, gexp}
use Rattle.field.proofs.Field.{zero_mul, add_zero}
use Rattle.outer_code.specs.Parity.{generator, next, parity_of}
use Rattle.outer_code.proofs.Parity.{length_next, next_at, parity_more}

-- 02^e times the generator added to the rest
abbrev pub added : ℕ → List ℕ → ℕ → ℕ
added e rest k = get_or rest k 0 ⊕ (gexp e ⊗ get_or generator k 0)

-- all places of a list from m on, and 0 behind them
moved_long : (n m : ℕ) (old kept : List ℕ) → length old ≡ m + n → kept ≡ take n (drop m old) → length (kept ++ 0 ∷ []) ≡ n + 1
moved_long n m old kept long is = rw is (search (rules, places))

moved_at : (n m : ℕ) (old kept : List ℕ) → length old ≡ m + n → kept ≡ take n (drop m old) → (k : ℕ) → k < n + 1 → get_or (kept ++ 0 ∷ []) k 0 ≡ get_or old (m + k) 0
moved_at n m old kept long is k h = rw is (grind (arith, places))

-- ---- one step: the rest moves up by one place, and the feedback is the byte plus what leaves it
module _ (old kept : List ℕ) (byte : ℕ) (lo : length old ≡ 16) (copied : kept ≡ take 15 (drop 1 old)) where
  moved : List ℕ
  moved = kept ++ 0 ∷ []

  long : length moved ≡ 16
  unfolding moved
  long = moved_long 15 1 old kept lo copied

  up : (k : ℕ) → k < 16 → get_or moved k 0 ≡ get_or old (suc k) 0
  unfolding moved
  up k h = moved_at 15 1 old kept lo copied k h ∙ ap (λ (m : ℕ). get_or old m 0) (let e : 1 + k ≡ suc k = omega arith in e)

  stepped : (feedback : ℕ) (new : List ℕ) → length new ≡ 16 → feedback ≡ byte ⊕ get_or old 0 0
      → ((k : ℕ) → k < 16 → get_or new k 0 ≡ get_or moved k 0 ⊕ (feedback ⊗ get_or generator k 0)) → new ≡ next old byte
  stepped feedback new ln is at =
      ext_get_or 0 new (next old byte) (ln ∙ sym (length_next old byte lo))
      (λ k l. (let h : k < 16 = omega arith in
      at k h ∙ ap₂ (λ (x y : ℕ). x ⊕ (y ⊗ get_or generator k 0)) (up k h) is ∙ sym (next_at old byte k lo h)))

  pub step_moved : byte ⊕ get_or old 0 0 ≡ 0 → kept ++ 0 ∷ [] ≡ next old byte
  unfolding moved
  step_moved none =
      stepped 0 moved long (sym none)
      (λ k h. sym (ap (λ (x : ℕ). get_or moved k 0 ⊕ x) (zero_mul (get_or generator k 0)) ∙ add_zero (get_or moved k 0)))

  pub step_added : (e : ℕ) (new : List ℕ) → length new ≡ 16 → gexp e ≡ byte ⊕ get_or old 0 0
      → ((k : ℕ) → k < 16 → get_or new k 0 ≡ added e (kept ++ 0 ∷ []) k) → new ≡ next old byte
  unfolding moved
  step_added e new ln is at = stepped (gexp e) new ln is at

-- ---- one more byte of a message
pub parity_next : (d : List ℕ) (i : ℕ) (rest new : List ℕ) → i < length d → rest ≡ parity_of (take i d) → new ≡ next rest (get_or d i 0)
    → new ≡ parity_of (take (i + 1) d)
parity_next d i rest new h so is =
    is ∙ ap (λ (r : List ℕ). next r (get_or d i 0)) so ∙ sym (parity_more (take i d) (get_or d i 0)) ∙ ap parity_of (sym (take_more d i 0 h))
