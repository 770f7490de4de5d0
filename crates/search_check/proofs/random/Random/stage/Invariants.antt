use Rattle.search_check.specs.Small.{CheapCell, CheapStage}
use Rattle.search_check.proofs.random.Random.stage.Given as goal

abbrev pub invariant-loop-j : goal.invariant-loop-j
invariant-loop-j l = CheapCell l.last × CheapStage l.cell-items
