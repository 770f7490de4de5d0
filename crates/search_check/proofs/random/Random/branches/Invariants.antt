use Rattle.search_check.specs.Small.{Cheap}
use Rattle.search_check.proofs.random.Random.branches.Given as goal

abbrev pub invariant-loop-stage : goal.invariant-loop-stage
invariant-loop-stage l = Cheap l.stage-items
