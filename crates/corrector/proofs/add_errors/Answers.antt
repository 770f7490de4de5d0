use Rattle.std.proofs.Common.{get_or, refl, arith}
use Rattle.corrector.proofs.Steps.{added_more}
use Rattle.corrector.proofs.add_errors.Goals as goal

pub loop-k-preserved : goal.loop-k-preserved
loop-k-preserved c = added_more (λ k. get_or c.args.errors.now k 0) c.args.block.now c.loop-k.block c.loop-k.k (get_or c.args.errors.now c.loop-k.k 0) (omega arith) refl c.loop-k.invariant
