use mathlib.Core.Path.{sym, ap₂, ◌∙◌, ap}
use Prim.Native.Nat.{◌-◌, ◌≤◌}
use native.Mathlib.Omega.{arith}
use native.Mathlib.Nat.{sub-add_cancel}
use Rattle.field.specs.Field.{◌⊗◌, gexp}
use Rattle.field.proofs.Field.{exp_mul, exp_255}
use Rattle.field.proofs.inverse.Goals as goal

pub returns : goal.returns
returns c =
    let h : c.log.result ≤ 255 = omega arith in
    ap₂ ◌⊗◌ c.power.ensures (sym c.log.ensures.exponent) ∙ exp_mul (255 - c.log.result) c.log.result
    ∙ ap gexp (sub-add_cancel h) ∙ exp_255
