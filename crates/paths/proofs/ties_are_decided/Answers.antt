use Rattle.paths.proofs.Ties.{first_total}
use Rattle.paths.proofs.ties_are_decided.Goals as goal

pub returns-clause-total : goal.returns-clause-total
returns-clause-total c = first_total
