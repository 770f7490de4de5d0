use Rattle.std.proofs.Common.{ℕ, sym, ap, ◌∙◌, rules}
use Rattle.field.specs.Field.{◌⊗◌}
use Rattle.outer_theory.proofs.Reduce.{cleared}
use Rattle.corrector.proofs.locator.Elimination.clear.Goals as goal

pub returns-clause-gone : goal.returns-clause-gone
returns-clause-gone c =
    cleared c.args.equation.now.shape.limit c.args.self.now.rows _ c.args.r c.args.p c.mul-factor.result c.inverse.result c.args.equation.now.syndromes c.args.equation.now.first
    (search rules) (c.mul-factor.ensures ∙ ap (λ (y : ℕ). y ⊗ c.inverse.result) c.apply.ensures)
    (ap (λ (y : ℕ). c.inverse.result ⊗ y) (sym c.apply-divisor.ensures) ∙ c.inverse.ensures)
