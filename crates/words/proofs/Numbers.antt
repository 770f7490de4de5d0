-- Bits read as a number, and those of a part of a slice.
-- Assumes nothing.
use Rattle.std.proofs.Common.{◌≡◌, ℕ, ◌+◌, ◌-◌, ◌*◌, ◌^◌, ◌<◌, ◌≤◌, Bool, true, false, List, length, take, drop, sym, refl, ap, ◌∙◌, subst, add-one, arith, lit<}
use Rattle.std.proofs.lemmas.List.{length-take-le, length-drop, get_or-take, get_or-drop}
use mir.Val.{bool_byte}
use Rattle.words.specs.Words.{Bits, flags, value, digit}
use Rattle.words.proofs.Bridge.{value_below, value_same, value_suc}

pub byte : (x : Bool) → bool_byte x ≡ digit x
byte true = refl
byte false = refl

-- r is the number that the first n bits are
pub record Read (n : ℕ) (a : Bits) (r : ℕ) : Type 0 where
  pub value : r ≡ value n a
  pub below : r < 2 ^ n

pub read_none : (a : Bits) → Read 0 a 0
unfolding value
read_none a = record { value = refl; below = lit< tt }

pub read_more : (n r d : ℕ) (a : Bits) → d ≡ digit (a n) → Read n a r → Read (n + 1) a (r * 2 + d)
read_more n r d a e p = record { value = is; below = subst (λ (x : ℕ). x < 2 ^ (n + 1)) (sym is) (value_below (n + 1) a) }
  where
    is : r * 2 + d ≡ value (n + 1) a
    is = let f = value_suc n a in let g = p.value in rw add-one (omega arith)

-- the n bits from a place on, as a part of a slice
pub part_length : (at w n : ℕ) (xs : List Bool) → w ≡ n → at + n ≤ length xs → length (take (at + w - at) (drop at xs)) ≡ n
part_length at w n xs e h = length-take-le (at + w - at) (drop at xs) (let d = length-drop at xs in omega arith) ∙ (let z : at + w - at ≡ n = omega arith in z)

pub part_value : (at w n : ℕ) (xs : List Bool) → w ≡ n → at + n ≤ length xs
    → value (length (take (at + w - at) (drop at xs))) (flags (take (at + w - at) (drop at xs))) ≡ value n (λ u. flags xs (at + u))
part_value at w n xs e h =
    ap (λ (k : ℕ). value k (flags (take (at + w - at) (drop at xs)))) (part_length at w n xs e h)
    ∙ value_same n (flags (take (at + w - at) (drop at xs))) (λ u. flags xs (at + u))
    (λ u l. get_or-take (at + w - at) (drop at xs) u false (omega arith) ∙ get_or-drop at xs u false)
