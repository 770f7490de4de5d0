use Rattle.coder.proofs.Worked.{cases}
use Rattle.coder.proofs.laws.worked_cases.Goals as goal

pub returns : goal.returns
returns c = cases
