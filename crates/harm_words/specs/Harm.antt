-- Harmful words: inner words that leave more wrong bytes in a block than can be corrected.
-- Assumes nothing.
use Rattle.std.specs.Prelude.{◌≡◌, Bool, false, ◌||◌, ℕ, zero, suc, ◌+◌, ◌*◌, ◌/◌, ◌<◌, ◌≤◌}
use Rattle.words.specs.Words.{Bits, ones}
use Rattle.standard.specs.Profiles.{period, profile}
use Rattle.inner_code.specs.Inner.{coded}
use Rattle.inner_words.specs.InnerWords.{Tailed}

-- How a burst is coded: the input bits of a puncturing period, the bytes of a block, how many of them can be corrected, and the blocks.
pub record Shape : Type 0 where
  pub period : ℕ
  pub size : ℕ
  pub limit : ℕ
  pub blocks : ℕ

-- that of a rate and n symbols
abbrev pub shape : ℕ → ℕ → Shape
shape rate n = record { period = period (profile rate).inner; size = (profile rate).block; limit = (profile rate).limit; blocks = n }

-- the input bits of the inner code, and the periods that they make
abbrev pub long : Shape → ℕ
long h = 8 * (h.blocks * h.size)

abbrev pub periods : Shape → ℕ
periods h = long h / h.period

-- whether one of the first n bits is 1
unfoldable pub any : ℕ → Bits → Bool
any zero a = false
any (suc n) a = any n a || a n

-- whether byte i is nonzero
abbrev pub nonzero : Bits → ℕ → Bool
nonzero u i = any 8 (λ t. u (8 * i + t))

-- how many bytes of block b are nonzero
abbrev pub heavy : ℕ → Bits → ℕ → ℕ
heavy size u b = ones size (λ j. nonzero u (size * b + j))

-- u is the input of an inner word, and some block of it has more nonzero bytes than can be corrected
pub record Harmful (h : Shape) (u : Bits) : Type 0 where
  pub tailed : Tailed (long h) u
  pub block : ℕ
  pub within : block < h.blocks
  pub many : h.limit < heavy h.size u block

-- the ones that the inner word of u sends
abbrev pub weight : Shape → Bits → ℕ
weight h u = ones ((h.period + 1) * periods h) (coded h.period u)

-- w is the fewest ones in a harmful word
pub record LeastHarm (h : Shape) (w : ℕ) : Type 0 where
  pub word : Bits
  pub harmful : Harmful h word
  pub weighs : weight h word ≡ w
  pub least : (u : Bits) → Harmful h u → w ≤ weight h u

-- r is the greatest number whose double is below the ones of every harmful word
pub record Reach (h : Shape) (r : ℕ) : Type 0 where
  pub below : (u : Bits) → Harmful h u → 2 * r < weight h u
  pub greatest : (q : ℕ) → ((u : Bits) → Harmful h u → 2 * q < weight h u) → q ≤ r
