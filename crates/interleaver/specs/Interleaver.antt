-- The interleaver of a symbol over g subchannels with c bits per carrier: coded bit k goes to place j.
-- Assumes nothing.
use Rattle.std.specs.Prelude.{◌≡◌, ℕ, ◌+◌, ◌-◌, ◌*◌, ◌/◌, ◌%◌, ◌<◌, max}
use Rattle.words.specs.Words.{Bits}
use Rattle.standard.specs.Profiles.{Modulation}

-- the bits of a symbol
abbrev pub size : ℕ → ℕ → ℕ
size g c = 12 * g * c

-- s, the bits of a group that is turned
abbrev pub turn : ℕ → ℕ
turn c = max (c / 2) 1

-- m, from k: neighbours go to carriers far apart
unfoldable pub spread : ℕ → ℕ → ℕ → ℕ
spread g c k = size g c / 12 * (k % 12) + k / 12

-- j, from m: neighbours go to more and to less reliable bits in turn
unfoldable pub turned : ℕ → ℕ → ℕ → ℕ
turned g c m = turn c * (m / turn c) + (m + size g c - 12 * m / size g c) % turn c

-- j, from k
unfoldable pub place : ℕ → ℕ → ℕ → ℕ
place g c k = turned g c (spread g c k)

-- the receiver's m, from j
unfoldable pub unturned : ℕ → ℕ → ℕ → ℕ
unturned g c j = turn c * (j / turn c) + (j + 12 * j / size g c) % turn c

-- the receiver's k, from m
unfoldable pub gathered : ℕ → ℕ → ℕ → ℕ
gathered g c m = 12 * m - (size g c - 1) * (12 * m / size g c)

-- the receiver's k, from j
unfoldable pub source : ℕ → ℕ → ℕ → ℕ
source g c j = gathered g c (unturned g c j)

-- sent holds the coded bits of n symbols, each symbol interleaved
pub record Interleaved (g c n : ℕ) (coded sent : Bits) : Type 0 where
  pub goes : (b k : ℕ) → b < n → k < size g c → sent (size g c * b + place g c k) ≡ coded (size g c * b + k)

-- What interleaving keeps, for every number of subchannels and every modulation.
pub record Permutation : Type 0 where
  -- k → j is a permutation of the places of a symbol, and the receiver's formulas are its inverse
  pub below : (g c k : ℕ) → 0 < g → Modulation c → k < size g c → place g c k < size g c
  pub back_below : (g c j : ℕ) → 0 < g → Modulation c → j < size g c → source g c j < size g c
  pub there_back : (g c k : ℕ) → 0 < g → Modulation c → k < size g c → source g c (place g c k) ≡ k
  pub back_there : (g c j : ℕ) → 0 < g → Modulation c → j < size g c → place g c (source g c j) ≡ j
  -- what is sent is known from what was coded, and the other way round
  pub sent_by_coded : (g c n : ℕ) (coded a b : Bits) → 0 < g → Modulation c → Interleaved g c n coded a → Interleaved g c n coded b → (j : ℕ) → j < size g c * n → a j ≡ b j
  pub coded_by_sent : (g c n : ℕ) (a b sent : Bits) → 0 < g → Modulation c → Interleaved g c n a sent → Interleaved g c n b sent → (k : ℕ) → k < size g c * n → a k ≡ b k
