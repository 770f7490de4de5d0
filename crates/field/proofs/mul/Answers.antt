use mathlib.Core.Path.{sym, ap₂, ◌∙◌, ap}
use mathlib.Core.Logic.{inl, inr}
use Prim.Native.Nat.{ℕ}
use Rattle.field.specs.Field.{◌⊗◌}
use Rattle.field.proofs.Field.{exp_mul, zero_mul, mul_zero}
use Rattle.field.proofs.mul.Goals as goal

pub returns-then-b-eq0 : goal.returns-then-b-eq0
returns-then-b-eq0 c =
    elim c.if-b-eq0.either [
      | inl e ↦ sym (ap (λ (x : ℕ). x ⊗ c.args.b) e ∙ zero_mul c.args.b)
      | inr e ↦ sym (ap (λ (x : ℕ). c.args.a ⊗ x) e.1 ∙ mul_zero c.args.a)
    ]

pub returns-else-b-eq0 : goal.returns-else-b-eq0
returns-else-b-eq0 c =
    c.power.ensures ∙ sym (exp_mul c.log.result c.log-else-b-eq0.result)
    ∙ ap₂ ◌⊗◌ c.log.ensures.exponent c.log-else-b-eq0.ensures.exponent
