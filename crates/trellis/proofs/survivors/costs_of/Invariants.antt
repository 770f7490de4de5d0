use Rattle.std.proofs.Common.{◌≡◌, ℕ, ◌<◌, length, get_or}
use Rattle.paths.proofs.Lanes.{values}
use Rattle.trellis.proofs.survivors.costs_of.Given as goal

abbrev pub invariant-loop-t : goal.invariant-loop-t
invariant-loop-t g l = (length l.row ≡ 64) × ((k : ℕ) → k < l.t → get_or l.row k 0 ≡ get_or (values g.L.Lane.value l.lanes) k 0)
