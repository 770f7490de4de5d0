-- What the steps of the encoder give: the bits of a window, and the bits that the puncturing keeps.
-- Assumes nothing.
use Rattle.std.specs.Prelude.{Bool, ℕ, ◌+◌, ◌/◌, ◌%◌, ◌^◌, eqb}
use Rattle.words.specs.Words.{Bits, ◌⊻◌}
use Rattle.standard.specs.declared.profile.Coded.{Coded}
use Rattle.standard.specs.declared.profile.Coded.TheVariants.{X1, Y1, Y2, X3, Y4, X5}

-- the outputs, X or Y, that an entry keeps a bit of
abbrev pub chosen : Bits → Bits → Coded → Bits
chosen x y X1 = x
chosen x y Y1 = y
chosen x y Y2 = y
chosen x y X3 = x
chosen x y Y4 = y
chosen x y X5 = x

-- the place of that bit in its period
abbrev pub offset : Coded → ℕ
offset X1 = 0
offset Y1 = 0
offset Y2 = 1
offset X3 = 2
offset Y4 = 3
offset X5 = 4

-- the coded bit of an entry, in the period from place k on
abbrev pub kept : Bits → Bits → ℕ → Coded → Bool
kept x y k e = chosen x y e (k + offset e)

-- bit b of a number, the lowest being bit 0
abbrev pub bit : ℕ → ℕ → Bool
bit n b = eqb (n / 2 ^ b % 2) 1

-- the two outputs at bit b of a window that holds the latest bits, newest lowest
abbrev pub x_in : ℕ → ℕ → Bool
x_in w b = bit w b ⊻ bit w (b + 1) ⊻ bit w (b + 2) ⊻ bit w (b + 3) ⊻ bit w (b + 6)

abbrev pub y_in : ℕ → ℕ → Bool
y_in w b = bit w b ⊻ bit w (b + 2) ⊻ bit w (b + 3) ⊻ bit w (b + 5) ⊻ bit w (b + 6)
