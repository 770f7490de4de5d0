use Rattle.field.specs.Field.{xtime}
use Rattle.field.proofs.Tables.{powers, powers_at}
use Rattle.field.proofs.power.Goals as goal

pub returns : goal.returns
unfolding powers xtime
returns c = powers_at 510 c.args.k c.requires
