-- Points back to bits: each axis is decided to the bits of the nearest level.
-- Assumes nothing.
use Rattle.std.specs.Prelude.{◌≡◌, ℕ, ◌*◌, ◌^◌, ◌<◌, ◌≤◌, List, get_or, ℤ, pos, negsuc, ◌-ℤ◌, ◌≤ℤ◌, slice_index_or, unsigned_abs}
use Rattle.words.specs.Words.{Bits}
use Rattle.standard.specs.Profiles.{Modulation}
use Rattle.standard.specs.declared.point.Point.{Point}
use Rattle.constellation.specs.Constellation.{Width, width, level, in_phase, quadrature, point, origin}

-- how far apart two axis values are
abbrev pub apart : ℤ → ℤ → ℕ
apart x y = unsigned_abs (x -ℤ y)

-- the axis value x is decided to the bits v: no level is nearer, and of those as near theirs is the greatest
pub record Decided (b : ℕ) (x : ℤ) (v : ℕ) : Type 0 where
  pub among : v < 2 ^ b
  pub nearest : (u : ℕ) → u < 2 ^ b → apart x (level b v) ≤ apart x (level b u)
  pub greater : (u : ℕ) → u < 2 ^ b → apart x (level b u) ≡ apart x (level b v) → level b u ≤ℤ level b v

-- some bits that x is decided to
pub record Verdict (b : ℕ) (x : ℤ) : Type 0 where
  pub bits : ℕ
  pub decided : Decided b x bits

-- the bits are those that n points are decided to; BPSK ignores Q
pub record Heard (c n : ℕ) (points : List Point) (bits : Bits) : Type 0 where
  pub i : (t : ℕ) → t < n → Decided (width c) (get_or points t origin).i (in_phase c bits t)
  pub q : 1 < c → (t : ℕ) → t < n → Decided (width c) (get_or points t origin).q (quadrature c bits t)

-- What deciding promises, for every modulation.
pub record Decisions : Type 0 where
  -- every axis value is decided, and in one way
  pub some : (b : ℕ) (x : ℤ) → Width b → Verdict b x
  pub one : (b : ℕ) (x : ℤ) (u v : ℕ) → Width b → Decided b x u → Decided b x v → u ≡ v
  -- a level is decided to its own bits
  pub own : (b v : ℕ) → Width b → v < 2 ^ b → Decided b (level b v) v
  -- points are heard in one way
  pub heard_one : (c n : ℕ) (points : List Point) (a b : Bits) → Modulation c → Heard c n points a → Heard c n points b → (k : ℕ) → k < c * n → a k ≡ b k
  -- points as they were sent are heard as the bits sent
  pub heard_sent : (c n : ℕ) (points : List Point) (sent bits : Bits) → Modulation c → ((t : ℕ) → t < n → slice_index_or points t origin ≡ point c sent t) → Heard c n points bits → (k : ℕ) → k < c * n → bits k ≡ sent k

-- A 16-QAM axis at 0, 512, -512 and -513.
pub record DecisionCases : Type 0 where
  pub at_0 : Decided 2 (pos 0) 0b00
  pub at_512 : Decided 2 (pos 512) 0b01
  pub at_minus_512 : Decided 2 (negsuc 511) 0b10
  pub at_minus_513 : Decided 2 (negsuc 512) 0b11
