-- Bits to the points of carriers: c bits to a carrier, half of them on each axis.
-- Assumes nothing.
use Rattle.std.specs.Prelude.{◌≡◌, ℕ, zero, suc, ◌+◌, ◌*◌, ◌/◌, ◌^◌, ◌<◌, ◌≤◌, max, cond, ◌⊎◌, List, [], ◌∷◌, ℤ, pos, negsuc, ◌*ℤ◌, ◌==◌, slice_index_or, unsigned_abs}
use Rattle.words.specs.Words.{Bits, value}
use Rattle.standard.specs.Profiles.{Modulation}
use Rattle.standard.specs.declared.point.Point.{Point}

-- the bits of an axis: one for BPSK and QPSK, two for 16-QAM, three for 64-QAM
abbrev pub width : ℕ → ℕ
width c = max (c / 2) 1

abbrev pub Width : ℕ → Type 0
Width b = (b ≡ 1) ⊎ ((b ≡ 2) ⊎ (b ≡ 3))

-- the levels in units, by their bits read as a number, the first bit highest: neighbours differ in one bit
abbrev pub units : ℕ → List ℤ
units zero = []
units (suc zero) = pos 1 ∷ negsuc 0 ∷ []
units (suc (suc zero)) = pos 1 ∷ pos 3 ∷ negsuc 0 ∷ negsuc 2 ∷ []
units (suc (suc (suc n))) = pos 3 ∷ pos 1 ∷ pos 5 ∷ pos 7 ∷ negsuc 2 ∷ negsuc 0 ∷ negsuc 4 ∷ negsuc 6 ∷ []

-- the level of the bits v, in counts: a unit is 256
abbrev pub level : ℕ → ℕ → ℤ
level b v = pos 256 *ℤ slice_index_or (units b) v (pos 0)

-- of the bits of carrier t the first half is I, the second Q
abbrev pub in_phase : ℕ → Bits → ℕ → ℕ
in_phase c sent t = value (width c) (λ u. sent (c * t + u))

abbrev pub quadrature : ℕ → Bits → ℕ → ℕ
quadrature c sent t = value (width c) (λ u. sent (c * t + width c + u))

-- the point of carrier t; BPSK has no Q
abbrev pub point : ℕ → Bits → ℕ → Point
point c sent t =
    record {
      i = level (width c) (in_phase c sent t);
      q = cond (c == 1) (pos 0) (level (width c) (quadrature c sent t));
    }

abbrev pub origin : Point
origin = record { i = pos 0; q = pos 0 }

-- x is a level of an axis of b bits
pub record Level (b : ℕ) (x : ℤ) : Type 0 where
  pub named : ℕ
  pub below : named < 2 ^ b
  pub value : x ≡ level b named

-- What points keep of their bits, for every modulation.
pub record Carried : Type 0 where
  -- every point is one of its modulation's
  pub i_level : (c : ℕ) (sent : Bits) (t : ℕ) → Level (width c) (point c sent t).i
  pub q_level : (c : ℕ) (sent : Bits) (t : ℕ) → 1 < c → Level (width c) (point c sent t).q
  pub q_none : (sent : Bits) (t : ℕ) → (point 1 sent t).q ≡ pos 0
  -- no axis is farther out than 1,792 counts
  pub i_within : (c : ℕ) (sent : Bits) (t : ℕ) → Modulation c → unsigned_abs (point c sent t).i ≤ 1792
  pub q_within : (c : ℕ) (sent : Bits) (t : ℕ) → Modulation c → unsigned_abs (point c sent t).q ≤ 1792
  -- a carrier's bits are known from its point
  pub one_to_one : (c : ℕ) (a b : Bits) (t : ℕ) → Modulation c → point c a t ≡ point c b t → (u : ℕ) → u < c → a (c * t + u) ≡ b (c * t + u)
