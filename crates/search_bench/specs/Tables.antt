-- What the tables of the benchmark hold.
-- Assumes nothing.
use Rattle.std.specs.Prelude.{ℕ, ◌+◌, ◌/◌, ◌%◌, cond, min, nat_lt}

-- both weights of a kind, at most 4 each
abbrev pub weight : ℕ → ℕ
weight kind = min (kind / 4 % 8) 4 + min (kind / 32) 4

-- what the table of totals holds, past its end too
abbrev pub total : ℕ → ℕ
total kind = cond (nat_lt kind 256) (weight kind) 0
