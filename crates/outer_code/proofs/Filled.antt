-- A list that is written place by place.
-- Assumes nothing.
use Rattle.std.proofs.Common.{◌≡◌, ℕ, ◌+◌, ◌<◌, ◌≤◌, ◌≢◌, List, length, get_or, set, sym, refl, ap, ◌∙◌, arith, length-set, get_or-set_other, get_or-set_same}
use native.Mathlib.Decide.{ℕ_discrete}

-- the places from first to last - 1 have got the values of f, and the others are as they were
pub record Filled (f : ℕ → ℕ) (first last : ℕ) (old new : List ℕ) : Type 0 where
  pub long : length new ≡ length old
  pub inside : (k : ℕ) → first ≤ k → k < last → get_or new k 0 ≡ f k
  pub before : (k : ℕ) → k < first → get_or new k 0 ≡ get_or old k 0
  pub behind : (k : ℕ) → last ≤ k → get_or new k 0 ≡ get_or old k 0

pub filled_start : (f : ℕ → ℕ) (first : ℕ) (old : List ℕ) → Filled f first first old old
filled_start f first old =
    record { long = refl; inside = λ k l h. absurd (omega arith); before = λ k h. refl; behind = λ k h. refl }

pub filled_more : (f : ℕ → ℕ) (first last v : ℕ) (old new : List ℕ) → Filled f first last old new → first ≤ last → last < length old → v ≡ f last
    → Filled f first (last + 1) old (set new last v)
filled_more f first last v old new filled ordered within is =
    record {
      long = length-set new last v ∙ filled.long;
      inside = λ k l h. at k l h (ℕ_discrete k last);
      before = λ k h. other k (omega arith) ∙ filled.before k h;
      behind = λ k h. other k (omega arith) ∙ filled.behind k (omega arith);
    }
  where
    other : (k : ℕ) → k ≢ last → get_or (set new last v) k 0 ≡ get_or new k 0
    other k ne = get_or-set_other new last k v 0 ne

    at : (k : ℕ) → first ≤ k → k < last + 1 → Dec (k ≡ last) → get_or (set new last v) k 0 ≡ f k
    at k l h (yes e) =
        ap (λ (m : ℕ). get_or (set new last v) m 0) e
        ∙ get_or-set_same new last v 0 (let w : last < length new = omega (arith, filled.long) in w) ∙ is ∙ ap f (sym e)
    at k l h (no n) = other k n ∙ filled.inside k l (omega arith)
