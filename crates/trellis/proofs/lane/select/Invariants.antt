use Rattle.std.proofs.Common.{◌*◌}
use Rattle.paths.proofs.Lanes.{Costs, Picks, values}
use Rattle.trellis.proofs.lane.select.Given as goal

abbrev pub invariant-loop-g : goal.invariant-loop-g
invariant-loop-g g l =
    let cost = values g.L.Lane.value in
    Costs (cost l.a) (cost l.b) (cost l.next) (16 * l.g) × Picks (cost l.a) (cost l.b) (cost l.next) l.word 0 (16 * l.g)
