-- A trellis of 2,560 states, of which the cost alone is wanted: where its branches lead and what they cost stands in a table.
-- Assumes nothing.
use Rattle.std.specs.Prelude.{ℕ, ◌<◌, ◌≤◌, Bool, true, false, List, [], Some, None, slice_index_or}
use Rattle.paths.specs.Model.{Model}
use Rattle.paths.specs.Registers.{digit}
use Rattle.search_bench.specs.declared.counted.Step.{Step}

-- what stands past the end of a table
abbrev pub none : Step
none = record { to = 0; cost = 0 }

-- the step of a bit, by a state's row and by the table
abbrev pub by_bit : List Step → Bool → Step
by_bit row b = slice_index_or row (digit b) none

abbrev pub step : List (List Step) → ℕ → Bool → Step
step steps s b = by_bit (slice_index_or steps s []) b

abbrev pub counted : ℕ → List (List Step) → Model
counted stages steps = record {
  stages = stages;
  states = 2560;
  start = 0;
  ends = λ s. true;
  wanted = false;
  narrow = false;
  branch = λ k s b. Some ((step steps s b).to, (step steps s b).cost);
  entry = λ k t i. None;
}

-- each branch leads to a state
abbrev pub Inside : List (List Step) → Type 0
Inside steps = (s : ℕ) (b : Bool) → (step steps s b).to < 2560

-- no branch costs more than 255
abbrev pub Small : List (List Step) → Type 0
Small steps = (s : ℕ) (b : Bool) → (step steps s b).cost ≤ 255
