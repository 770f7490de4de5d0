use Rattle.std.proofs.Common.{◌*◌}
use Rattle.paths.proofs.Lanes.{values}
use Rattle.paths.proofs.Rows.{Reached}
use Rattle.trellis.proofs.survivors.Wanted.forward.Given as goal

abbrev pub invariant-loop-pair : goal.invariant-loop-pair
invariant-loop-pair g l = Reached (g.T.Trellis.model l.self.trellis.now) l.work (2 * l.pair) (values g.L.Lane.value l.row)
