use Rattle.receiver.proofs.Tables.{x_tapped, y_tapped}
use Rattle.receiver.proofs.costs.output.Goals as goal

pub returns-clause-x : goal.returns-clause-x
returns-clause-x c e = rw e (x_tapped c.args.window c.requires)

pub returns-clause-y : goal.returns-clause-y
returns-clause-y c e = rw e (y_tapped c.args.window c.requires)
