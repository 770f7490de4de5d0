use Rattle.std.proofs.Common.{ℕ, get_or, sym, ap, ◌∙◌}
use Rattle.field.specs.Field.{◌⊗◌, gexp, xtime}
use Rattle.field.proofs.Field.{exp_mul}
use Rattle.field.proofs.Tables.{logarithm, place, powers}
use Rattle.outer_code.specs.Parity.{generator}
use Rattle.outer.proofs.Table.{logs_of, generator_exp}
use Rattle.outer.proofs.coefficient.Goals as goal

pub returns : goal.returns
unfolding logs_of generator logarithm place powers xtime
returns c =
    c.power.ensures ∙ sym (exp_mul c.args.exponent (get_or (logs_of generator) c.args.i 0))
    ∙ ap (λ (x : ℕ). gexp c.args.exponent ⊗ x) (generator_exp c.args.i c.requires.within)
