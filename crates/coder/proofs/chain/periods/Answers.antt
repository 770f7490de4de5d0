use Rattle.coder.proofs.Steps.{counted}
use Rattle.coder.proofs.chain.periods.Goals as goal

pub returns-clause-coded : goal.returns-clause-coded
returns-clause-coded c = rw (c.block_bytes.ensures.value, c.period.ensures, c.profile.ensures.value) (counted c.args.order).coded
