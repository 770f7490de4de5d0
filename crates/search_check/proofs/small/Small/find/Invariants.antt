use Rattle.std.proofs.Common.{ℕ, ◌*◌, ◌<◌}
use Rattle.search_check.specs.SmallLaws.{At}
use Rattle.search_check.proofs.small.Small.find.Given as goal

-- the branch that is looked for is none of those passed
abbrev pub invariant-loop-j : goal.invariant-loop-j
invariant-loop-j l = (i : ℕ) → i < l.j → At l.self.branches l.stage l.state l.before (2 * l.self.states) i → ⊥
