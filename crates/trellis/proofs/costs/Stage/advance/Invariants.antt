use Rattle.std.proofs.Common.{◌*◌}
use Rattle.paths.proofs.Pushed.{Partly}
use Rattle.trellis.proofs.costs.Stage.advance.Given as goal

abbrev pub invariant-loop-s : goal.invariant-loop-s
invariant-loop-s g l = Partly (g.T.Trellis.model l.self.trellis.now) l.self.k l.self.row.now l.next (2 * l.s)
