-- The trellis of a heard burst: each stage has a kind, and each kind a row of costs.
-- Assumes nothing.
use Rattle.std.specs.Prelude.{ℕ, ◌+◌, ◌-◌, ◌/◌, ◌%◌, ◌<◌, ◌≤◌, Bool, false, cond, List, [], length, ◌==◌, nat_eq, nat_lt, slice_index, slice_index_or}
use Rattle.paths.specs.Model.{Model}
use Rattle.paths.specs.Registers.{register}

-- what the middle bits cost where a kind was heard
abbrev pub cost : List (List ℕ) → ℕ → ℕ → ℕ
cost costs kind h = slice_index (slice_index_or costs kind []) h

-- whether the newest and the oldest of the seven bits differ
abbrev pub flips : ℕ → Bool → Bool
flips t i = cond i (t % 2 == 0) (t % 2 == 1)

-- bit 1 is closed in the last eight stages
abbrev pub ended : ℕ → ℕ → ℕ → Bool
ended n k t = cond (t % 2 == 1) (nat_lt n (k + 9)) false

-- what the entry i of state t costs by a kind: both coded bits have the newest and the oldest bit, so that the other cost is what is left of the total
abbrev pub share : List (List ℕ) → List ℕ → ℕ → ℕ → Bool → ℕ
share costs totals kind t i = cond (flips t i) (slice_index totals kind - cost costs kind (t / 2)) (cost costs kind (t / 2))

-- the same at stage k, where it may be closed
abbrev pub price : List ℕ → List (List ℕ) → List ℕ → ℕ → ℕ → Bool → ℕ
price kinds costs totals k t i = cond (ended (length kinds) k t) 65535 (share costs totals (slice_index kinds k) t i)

abbrev pub heard : List ℕ → List (List ℕ) → List ℕ → Bool → Model
heard kinds costs totals narrow = register (length kinds) (λ s. nat_eq s 0) narrow (λ k v. price kinds costs totals k (v % 64) (v / 64 == 1))

-- no cost is above its kind's total
abbrev pub Fair : List (List ℕ) → List ℕ → Type 0
Fair costs totals = (kind h : ℕ) → h < 32 → cost costs kind h ≤ slice_index totals kind

-- no total is above 8
abbrev pub Low : List ℕ → Type 0
Low totals = (kind : ℕ) → slice_index totals kind ≤ 8
