use Rattle.std.proofs.Common.{◌≡◌, ◌<◌, Bool, Option, [], length, get_or}
use Rattle.receiver.specs.Kinds.{Row, kind}
use Rattle.receiver.proofs.costs.costs.Given as goal

abbrev pub invariant-loop-index : goal.invariant-loop-index
invariant-loop-index l = (length l.entry-items ≡ 9) × ((x y : Option Bool) → kind x y < l.index → Row (get_or l.entry-items (kind x y) []) x y)
