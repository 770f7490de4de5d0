-- The table of what a window costs.
-- Assumes nothing.
use Rattle.std.proofs.Common.{◌≡◌, ℕ, ◌%◌, ◌<◌, Bool, nat_eq, bit_and, refl}
use lib.Count.{ones}
use Rattle.std.proofs.lemmas.Bool.{agree_below_at}
use Rattle.inner_words.specs.Receiving.{x_of, y_of}
use Rattle.receiver.specs.declared.costs.TheConstants.{X_TAPS, Y_TAPS}

-- an output is the sum of the bits at its taps
abbrev tapped : ℕ → ℕ → Bool
tapped taps v = nat_eq (ones (bit_and v taps) % 2) 1

pub x_tapped : (v : ℕ) → v < 128 → tapped X_TAPS v ≡ x_of v
unfolding ones
x_tapped v l = agree_below_at (tapped X_TAPS) x_of 128 v refl l

pub y_tapped : (v : ℕ) → v < 128 → tapped Y_TAPS v ≡ y_of v
unfolding ones
y_tapped v l = agree_below_at (tapped Y_TAPS) y_of 128 v refl l
