-- What each step of deciding finds and writes.
-- Assumes nothing.
use Rattle.std.specs.Prelude.{◌≡◌, ℕ, ◌+◌, ◌*◌, ◌<◌, ◌≤◌, ◌⊎◌, ℤ, pos, ◌+ℤ◌, ◌≤ℤ◌, ◌<ℤ◌}
use Rattle.words.specs.Words.{Bits, value}
use Rattle.standard.specs.declared.point.Point.{Point}
use Rattle.constellation.specs.Constellation.{width, in_phase, quadrature}
use Rattle.constellation.specs.Decisions.{Decided}

-- n is the rank of x among l levels that stand 512 apart: x has come to its lower edge, and not to its upper one
pub record Ranked (l : ℕ) (x : ℤ) (n : ℕ) : Type 0 where
  pub below : n < l
  pub low : 0 < n → pos (512 * n) ≤ℤ (x +ℤ pos (256 * l))
  pub high : n + 1 < l → (x +ℤ pos (256 * l)) <ℤ pos (512 * (n + 1))

-- what is outside of the n bits from at on is as it was
abbrev pub Kept : (at n : ℕ) (before after : Bits) → Type 0
Kept at n before after = (k : ℕ) → (k < at) ⊎ (at + n ≤ k) → after k ≡ before k

-- the b bits from at on are those that x is decided to
pub record AxisHeard (at b : ℕ) (x : ℤ) (before after : Bits) : Type 0 where
  pub decided : Decided b x (value b (λ u. after (at + u)))
  pub kept : Kept at b before after

-- the bits of carrier t are those that its point is decided to
pub record PointHeard (c t : ℕ) (p : Point) (before after : Bits) : Type 0 where
  pub i : Decided (width c) p.i (in_phase c after t)
  pub q : 1 < c → Decided (width c) p.q (quadrature c after t)
  pub kept : Kept (c * t) c before after
