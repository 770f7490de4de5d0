-- The trellis of a shift register of six bits, whose costs depend on the stage and on the seven bits at hand.
-- Assumes nothing.
use Rattle.std.specs.Prelude.{ℕ, ◌+◌, ◌*◌, ◌/◌, ◌%◌, Bool, true, false, cond, Some, None, Option, ◌==◌, nat_lt}
use Rattle.paths.specs.Model.{Model}

abbrev pub open_if : {X : Type 0} → Bool → X → Option X
open_if true x = Some x
open_if false x = None

abbrev pub digit : Bool → ℕ
digit b = cond b 1 0

-- The state holds the last six bits, the newest lowest. `cost k v` is that of the seven bits v at stage k; from 256 on the branch is closed.
abbrev pub register : ℕ → (ℕ → Bool) → Bool → (ℕ → ℕ → ℕ) → Model
register n ends narrow cost = record {
  stages = n;
  states = 64;
  start = 0;
  ends = ends;
  wanted = true;
  narrow = narrow;
  branch = λ k s b. open_if (nat_lt (cost k (2 * s + digit b)) 256) ((2 * s + digit b) % 64, cost k (2 * s + digit b));
  entry = λ k t i. open_if (nat_lt (cost k (t + 64 * digit i)) 256) (t / 2 + 32 * digit i, (t % 2 == 1), cost k (t + 64 * digit i));
}
