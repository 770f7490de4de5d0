-- The powers of 02 in a row, and where a byte stands among them.
-- Assumes nothing.
use mathlib.Core.Path.{◌≡◌, refl, ◌∙◌, ap}
use mathlib.Core.Bool.{cond}
use mathlib.Core.List.{List, [], ◌∷◌}
use Prim.Native.Nat.{ℕ, zero, suc, ◌+◌, ◌<◌}
use native.Mathlib.Omega.{arith}
use lib.Dec.{eqb}
use lib.ListN.{get_or}
use Rattle.field.specs.Field.{xtime, xtimes, gexp}

-- a, and the n - 1 powers of x times a that follow
unfoldable pub powers : ℕ → ℕ → List ℕ
powers zero a = []
powers (suc n) a = a ∷ powers n (xtime a)

-- the place of b in a list, or its length
unfoldable pub place : ℕ → List ℕ → ℕ
place b [] = 0
place b (c ∷ cs) = cond (eqb b c) 0 (suc (place b cs))

-- the logarithm of b to the base 02; 0 has none, and gets 255
unfoldable pub logarithm : ℕ → ℕ
logarithm b = place b (powers 255 1)

-- the logarithms of the n bytes from b on
unfoldable pub logarithms : ℕ → ℕ → List ℕ
logarithms zero b = []
logarithms (suc n) b = logarithm b ∷ logarithms n (suc b)

xtimes_xtime : (k a : ℕ) → xtimes k (xtime a) ≡ xtimes (suc k) a
unfolding xtimes
xtimes_xtime zero a = refl
xtimes_xtime (suc k) a = ap xtime (xtimes_xtime k a)

powers_xtimes : (n a k : ℕ) → k < n → get_or (powers n a) k 0 ≡ xtimes k a
unfolding powers xtimes
powers_xtimes zero a k h = absurd (omega arith)
powers_xtimes (suc n) a zero h = refl
powers_xtimes (suc n) a (suc k) h = powers_xtimes n (xtime a) k (omega arith) ∙ xtimes_xtime k a

pub powers_at : (n k : ℕ) → k < n → get_or (powers n 1) k 0 ≡ gexp k
unfolding gexp
powers_at n k h = powers_xtimes n 1 k h

logarithms_from : (n b k : ℕ) → k < n → get_or (logarithms n b) k 0 ≡ logarithm (b + k)
unfolding logarithms
logarithms_from zero b k h = absurd (omega arith)
logarithms_from (suc n) b zero h = ap logarithm (let e : b ≡ b + 0 = omega arith in e)
logarithms_from (suc n) b (suc k) h = logarithms_from n (suc b) k (omega arith) ∙ ap logarithm (let e : suc b + k ≡ b + suc k = omega arith in e)

pub logarithms_at : (n k : ℕ) → k < n → get_or (logarithms n 0) k 0 ≡ logarithm k
logarithms_at n k h = logarithms_from n 0 k h ∙ ap logarithm (let e : 0 + k ≡ k = omega arith in e)
