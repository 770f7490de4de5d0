use Rattle.std.proofs.Common.{sym, ◌∙◌}
use Rattle.corrector.proofs.Steps.{some_left, row_left}
use Rattle.corrector.proofs.locator.Elimination.first_left.Goals as goal

pub unwrap-requires : goal.unwrap-requires
unwrap-requires c = some_left c.args.shape.limit c.args.self.now.left c.first_true.result c.first_true.ensures c.requires

pub returns-clause-row : goal.returns-clause-row
returns-clause-row c = row_left c.args.shape.limit c.args.self.now.left c.unwrap.result (sym c.first_true.ensures ∙ c.unwrap.ensures) c.requires
