-- The scrambler. Its register is a number of fifteen bits, stage 1 highest and stage 15 lowest.
-- Assumes nothing.
use Rattle.std.specs.Prelude.{Bool, ℕ, zero, suc, ◌+◌, ◌-◌, ◌*◌, ◌/◌, ◌%◌, ◌^◌, eqb}
use Rattle.words.specs.Words.{Bytes, ◌⊻◌, digit, bits, bytes}

-- stages 1 to 4 are the station, 5 and 6 are 1 1, 7 to 10 the usage, 11 is 1, 12 to 15 the frame
abbrev pub start : ℕ → ℕ → ℕ → ℕ
start bsid uiuc frame = bsid * 2 ^ 11 + 3 * 2 ^ 9 + uiuc * 2 ^ 5 + 1 * 2 ^ 4 + frame

abbrev pub stage : ℕ → ℕ → Bool
stage i r = eqb (r / 2 ^ (15 - i) % 2) 1

-- the new bit
unfoldable pub fresh : ℕ → Bool
fresh r = stage 14 r ⊻ stage 15 r

-- the register after one bit: the new one is pushed into stage 1
unfoldable pub pushed : ℕ → ℕ
pushed r = digit (fresh r) * 2 ^ 14 + r / 2

-- the register after k bits
unfoldable pub after : ℕ → ℕ → ℕ
after zero r = r
after (suc k) r = pushed (after k r)

-- bytes scrambled from the register r on: each bit with its new bit
unfoldable pub scrambled : ℕ → Bytes → Bytes
scrambled r w = bytes (λ k. bits w k ⊻ fresh (after k r))
