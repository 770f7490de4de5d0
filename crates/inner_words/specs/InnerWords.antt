-- The inner words, and which of them is the nearest to what was heard.
-- Assumes nothing.
use Rattle.std.specs.Prelude.{◌≡◌, ℕ, ◌+◌, ◌*◌, ◌<◌, ◌≤◌, false}
use Rattle.words.specs.Words.{Bits, plus, ones}
use Rattle.inner_code.specs.Inner.{coded}
use Rattle.paths.specs.Ties.{BitsFirst}

-- the last eight of n bits are 0; the inner words are the coded bits of such bits
abbrev pub Tailed : ℕ → Bits → Type 0
Tailed n u = (k : ℕ) → k < n → n ≤ k + 8 → u k ≡ false

-- of q periods of p bits: in how many coded bits the word of u differs from what was heard
abbrev pub wrong : ℕ → ℕ → Bits → Bits → ℕ
wrong p q u heard = ones ((p + 1) * q) (plus (coded p u) heard)

-- the word of u is the nearest to what was heard; of several as near, u has 0 at the last bit where they differ
pub record Nearest (p q : ℕ) (heard u : Bits) : Type 0 where
  pub tailed : Tailed (p * q) u
  pub least : (v : Bits) → Tailed (p * q) v → wrong p q u heard ≤ wrong p q v heard
  pub first : (v : Bits) → Tailed (p * q) v → wrong p q v heard ≡ wrong p q u heard → BitsFirst u v (p * q)
