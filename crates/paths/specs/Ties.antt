-- Which of two paths is first, where both cost the same.
-- Assumes nothing.
use Rattle.std.specs.Prelude.{◌≡◌, ℕ, ◌<◌, ◌≤◌, true, false, Some, None, Option}
use Rattle.paths.specs.Model.{Model, Path, after}

abbrev pub state_of : Option (ℕ × ℕ) → ℕ
state_of None = 0
state_of (Some p) = p.0

-- the state where a path stands after k stages
abbrev pub state : Model → Path → ℕ → ℕ
state m p k = state_of (after m p k)

-- Of paths with the same states: p has bit 0 at the last bit that differs, or no bit differs.
pub data BitsFirst (p q : Path) (n : ℕ) : Type 0 where
  same_bits : ((j : ℕ) → j < n → p j ≡ q j) → BitsFirst p q n
  lower_bit : (k : ℕ) → k < n → p k ≡ false → q k ≡ true → ((j : ℕ) → k < j → j < n → p j ≡ q j) → BitsFirst p q n

-- Of n stages: p is on the lower state at the last place where the states differ, or no state differs and the bits decide.
pub data First (m : Model) (p q : Path) (n : ℕ) : Type 0 where
  same_states : ((j : ℕ) → j ≤ n → state m p j ≡ state m q j) → BitsFirst p q n → First m p q n
  lower_state : (k : ℕ) → k ≤ n → state m p k < state m q k → ((j : ℕ) → k < j → j ≤ n → state m p j ≡ state m q j) → First m p q n
