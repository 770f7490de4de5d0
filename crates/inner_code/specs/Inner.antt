-- The inner code: a convolutional code of rate 1/2, punctured to four rates.
-- Assumes nothing.
use Rattle.std.specs.Prelude.{Bool, false, List, [], ◌∷◌, ℕ, zero, suc, ◌+◌, ◌*◌, ◌/◌, ◌%◌, get_or}
use Rattle.words.specs.Words.{Bits, ◌⊻◌}

-- the bit d places before place k; before the first it is 0
unfoldable pub earlier : Bits → ℕ → ℕ → Bool
earlier u k zero = u k
earlier u zero (suc d) = false
earlier u (suc k) (suc d) = earlier u k d

-- the two generator outputs of the rate-1/2 encoder, constraint length 7
abbrev pub x : Bits → ℕ → Bool
x u k = u k ⊻ earlier u k 1 ⊻ earlier u k 2 ⊻ earlier u k 3 ⊻ earlier u k 6

abbrev pub y : Bits → ℕ → Bool
y u k = u k ⊻ earlier u k 2 ⊻ earlier u k 3 ⊻ earlier u k 5 ⊻ earlier u k 6

-- X1 Y1 Y2 X3 Y4 X5 from place k on
abbrev pub pattern : Bits → ℕ → List Bool
pattern u k = x u k ∷ y u k ∷ y u (k + 1) ∷ x u (k + 2) ∷ y u (k + 3) ∷ x u (k + 4) ∷ []

-- the coded bits at rate p / (p + 1): of each p input bits the first p + 1 of the pattern
unfoldable pub coded : ℕ → Bits → Bits
coded p u j = get_or (pattern u (p * (j / (p + 1)))) (j % (p + 1)) false

-- the four rates
pub data Rated : ℕ → Type 0 where
  half : Rated 1
  two_thirds : Rated 2
  three_quarters : Rated 3
  five_sixths : Rated 5
