use Rattle.std.proofs.Common.{◌*◌, true, false}
use Rattle.paths.proofs.Lanes.{values}
use Rattle.paths.proofs.Rows.{Candidates}
use Rattle.trellis.proofs.survivors.Stage.candidates.Given as goal

abbrev pub invariant-loop-h : goal.invariant-loop-h
invariant-loop-h g l =
    let m = g.T.Trellis.model l.self.trellis.now in
    Candidates m l.self.k false (values g.L.Lane.value l.self.row.now) (values g.L.Lane.value l.a) (2 * l.h) × Candidates m l.self.k true (values g.L.Lane.value l.self.row.now) (values g.L.Lane.value l.b) (2 * l.h)
