use Rattle.std.proofs.Common.{◌≡◌, ℕ, ◌+◌, length, get_or, take, ap, ◌∙◌, add-one, arith, rules}
use Rattle.field.specs.Field.{◌⊗◌, gexp, gpow}
use Rattle.outer_theory.specs.Sums.{sum}
use Rattle.corrector.proofs.Slices.{added_front}
use Rattle.corrector.proofs.Steps.{sum_taken}
use Rattle.corrector.proofs.errors.values_of.Goals as goal

pub returns : goal.returns
returns c m l =
    let long : length c.add_values.new.values ≡ c.block-n.result = search rules in
    let first = λ (m : ℕ). sum (length (take (c.args.shape.limit + 1) c.args.locator.now)) (λ l. get_or (take (c.args.shape.limit + 1) c.args.locator.now) l 0 ⊗ gpow (gexp m) l) in
    added_front c.add_values.new.values _ c.block-n.result 255 first long (omega arith) c.add_values.ensures m (omega arith)
    ∙ sum_taken (c.args.shape.limit + 1) c.args.locator.now (λ l. gpow (gexp m) l) (omega arith)
    ∙ ap (λ (n : ℕ). sum n (λ l. get_or c.args.locator.now l 0 ⊗ gpow (gexp m) l)) (add-one c.args.shape.limit)
