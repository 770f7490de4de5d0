use Rattle.field.specs.Field.{◌⊕◌, gexp, xtimes, xtime}
use Rattle.field.proofs.Tables.{logarithm, place, powers}
use Rattle.outer_theory.proofs.Products.{product_logs, product_log_lem, product_log_lt}
use Rattle.corrector.proofs.syndromes.product_log.Goals as goal

pub returns : goal.returns
unfolding product_logs logarithm place powers gexp xtimes xtime ◌⊕◌
returns c = record { is = product_log_lem c.args.n c.requires; low = product_log_lt c.args.n c.requires }
