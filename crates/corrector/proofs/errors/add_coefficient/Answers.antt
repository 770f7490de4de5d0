use Rattle.field.specs.Field.{gexp}
use Rattle.corrector.proofs.Evaluating.{coefficient_log, coefficient_none}
use Rattle.corrector.proofs.errors.add_coefficient.Goals as goal
use Rattle.std.proofs.Common.{ap, ◌∙◌, get_or}

pub returns-then-coefficient-ne0 : goal.returns-then-coefficient-ne0
returns-then-coefficient-ne0 c m h =
    coefficient_log c.from.result c.args.coefficient c.args.l m (get_or c.args.values.now m 0) _ (ap gexp c.from.ensures ∙ c.log.ensures.exponent) (c.add_powers.ensures m h)

pub returns-else-coefficient-ne0 : goal.returns-else-coefficient-ne0
returns-else-coefficient-ne0 c m h = coefficient_none c.args.coefficient c.args.l m (get_or c.args.values.now m 0) c.if-coefficient-ne0.false
