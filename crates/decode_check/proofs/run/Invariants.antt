use Rattle.std.proofs.Common.{length}
use Rattle.decode_check.proofs.run.Given as goal

abbrev pub decreases-loop-head : goal.decreases-loop-head
decreases-loop-head l = length l.rest
