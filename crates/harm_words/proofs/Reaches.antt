-- The fewest ones of a harmful word give the reach.
-- Assumes nothing.
use Prim.Native.Nat.{ℕ, ◌-◌, ◌/◌, ◌<◌}
use native.Mathlib.Omega.{arith}
use Rattle.harm_words.specs.Harm.{LeastHarm, Reach, Shape}

pub reach_is : (h : Shape) (w : ℕ) → 0 < w → LeastHarm h w → Reach h ((w - 1) / 2)
reach_is h w pos l = record {
  below = λ u b. let m = l.least u b in omega arith;
  greatest = λ q all. let m = all l.word l.harmful in omega (arith, l.weighs);
}
