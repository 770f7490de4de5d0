use Rattle.coder.proofs.Lawfulness.{lawful}
use Rattle.coder.proofs.laws.bursts_are_lawful.Goals as goal

pub returns : goal.returns
returns c = lawful
