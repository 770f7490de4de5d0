use mathlib.Core.Path.{◌∙◌, ap, sym, subst}
use borrow.Author.Rules.{rules}
use Prim.Native.Nat.{ℕ, ◌<◌}
use Rattle.field.specs.Field.{gexp, xtime}
use Rattle.field.proofs.Tables.{powers, place, logarithm, logarithms, logarithms_at}
use Rattle.field.proofs.Field.{exp_of_log, log_lt}
use Rattle.field.proofs.log.Goals as goal

pub returns : goal.returns
unfolding logarithms logarithm place powers xtime
returns c =
    let byte : c.args.a < 256 = search rules in
    let at = logarithms_at 256 c.args.a byte in
    record {
      exponent = ap gexp at ∙ exp_of_log c.args.a byte c.requires;
      low = subst (λ (k : ℕ). k < 255) (sym at) (log_lt c.args.a byte c.requires);
    }
