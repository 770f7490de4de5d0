use Rattle.constellation.proofs.Hearing.{decisions}
use Rattle.constellation.proofs.decisions_stand.Goals as goal

pub returns : goal.returns
returns c = decisions
