use Rattle.std.proofs.Common.{arith}
use Rattle.corrector.proofs.Folding.{folded_more}
use Rattle.corrector.proofs.errors.fold.Goals as goal

pub loop-j-preserved : goal.loop-j-preserved
loop-j-preserved c = folded_more c.args.x c.args.sums.now c.loop-j.sums c.loop-j.j c.mul.result (omega arith) c.mul.ensures c.loop-j.invariant
