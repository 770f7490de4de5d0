use Rattle.std.proofs.Common.{◌≡◌, ℕ, ◌+◌, ◌-◌, ◌*◌, ◌%◌, ap, ◌∙◌, arith}
use Rattle.field.specs.Field.{gexp}
use Rattle.outer_theory.specs.Syndromes.{weight}
use Rattle.outer_theory.proofs.Products.{triangle, weight_log_lem}
use Rattle.corrector.proofs.Running.{triangles, triangle_at}
use Rattle.corrector.proofs.syndromes.weight_log.Goals as goal

pub returns-clause-is : goal.returns-clause-is
unfolding triangles triangle
returns-clause-is c =
    let e : ℕ = 16 - c.parity-e.result in
    let unsent : e ≡ 16 - 2 * c.args.shape.limit = omega arith in
    ap (λ (t : ℕ). gexp ((t + c.from-above.result + 255 - c.from-below.result) % 255)) (c.from-shift.ensures ∙ triangle_at e (omega arith))
    ∙ weight_log_lem e c.args.place c.from-above.result c.from-below.result (ap gexp c.from-above.ensures ∙ c.product_log.ensures.is) (ap gexp c.from-below.ensures ∙ c.product_log-2.ensures.is)
    (omega (arith, c.product_log-2.ensures.low))
    ∙ ap (λ (u : ℕ). weight u (c.args.place + u)) unsent
