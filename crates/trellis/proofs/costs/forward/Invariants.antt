use Rattle.std.proofs.Common.{◌*◌}
use Rattle.paths.proofs.Pushed.{Leasts}
use Rattle.trellis.proofs.costs.forward.Given as goal

abbrev pub invariant-loop-pair : goal.invariant-loop-pair
invariant-loop-pair g l = Leasts (g.T.Trellis.model l.trellis) (2 * l.pair) l.front
