use Rattle.std.proofs.Common.{rules}
use Rattle.receiver.proofs.costs.costs.Goals as goal

pub loop-index-preserved : goal.loop-index-preserved
loop-index-preserved c = (search rules, λ x y l s b m. search rules)
