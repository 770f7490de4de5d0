use Rattle.std.proofs.Common.{◌≡◌}
use Rattle.paths.proofs.Rows.{End, end_cost}
use Rattle.trellis.proofs.ends.best_end.Given as goal

abbrev pub invariant-loop-t : goal.invariant-loop-t
invariant-loop-t g l = (l.least ≡ end_cost l.row l.best) × End (g.T.Trellis.model l.trellis) l.row l.t l.best
