-- The seven profiles.
-- Assumes nothing.
use Rattle.std.specs.Prelude.{◌≡◌, ℕ, ◌+◌, ◌*◌, ◌≤◌, ◌⊎◌, List, [], ◌∷◌, slice_index_or}
use Rattle.standard.specs.declared.profile.InnerRate.{InnerRate}
use Rattle.standard.specs.declared.profile.InnerRate.TheVariants.{Half, TwoThirds, ThreeQuarters, FiveSixths}
use Rattle.standard.specs.declared.profile.Coded.{Coded}
use Rattle.standard.specs.declared.profile.Coded.TheVariants.{X1, Y1, Y2, X3, Y4, X5}
use Rattle.standard.specs.declared.profile.Profile.{Profile}

-- the coded bits of a period, in the order sent
abbrev pub punctured : InnerRate → List Coded
punctured Half = X1 ∷ Y1 ∷ []
punctured TwoThirds = X1 ∷ Y1 ∷ Y2 ∷ []
punctured ThreeQuarters = X1 ∷ Y1 ∷ Y2 ∷ X3 ∷ []
punctured FiveSixths = X1 ∷ Y1 ∷ Y2 ∷ X3 ∷ Y4 ∷ X5 ∷ []

-- the input bits of a period: one fewer
abbrev pub period : InnerRate → ℕ
period Half = 1
period TwoThirds = 2
period ThreeQuarters = 3
period FiveSixths = 5

abbrev row : ℕ → ℕ → ℕ → ℕ → InnerRate → Profile
row c k n t r = record { bits = c; message = k; block = n; limit = t; inner = r }

-- bits per carrier, data bytes, bytes of a block, correction limit, inner rate
abbrev pub table : List Profile
table =
    row 1 12 12 0 Half
    ∷ row 2 24 32 4 TwoThirds
    ∷ row 2 36 40 2 FiveSixths
    ∷ row 4 48 64 8 TwoThirds
    ∷ row 4 72 80 4 FiveSixths
    ∷ row 6 96 108 6 ThreeQuarters
    ∷ row 6 108 120 6 FiveSixths
    ∷ []

-- the profile of a rate; the rates above 6 have none, and the row for them is never used
abbrev pub profile : ℕ → Profile
profile rate = slice_index_or table rate (row 0 0 0 0 Half)

-- bits per carrier of BPSK, QPSK, 16-QAM and 64-QAM
abbrev pub Modulation : ℕ → Type 0
Modulation c = (c ≡ 1) ⊎ ((c ≡ 2) ⊎ ((c ≡ 4) ⊎ (c ≡ 6)))

-- what fits together in every row
pub record Fitting (p : Profile) : Type 0 where
  pub modulation : Modulation p.bits
  pub parity : p.block ≡ 2 * p.limit + p.message
  pub correctable : p.limit ≤ 8
  pub some : 12 ≤ p.message
  pub small : p.message ≤ 108
  pub short : p.block ≤ 120
  -- a symbol carries one block, and whole periods of it
  pub whole : 8 * p.block * (period p.inner + 1) ≡ period p.inner * (192 * p.bits)
