use Rattle.std.proofs.Common.{◌≡◌, ℕ, ◌+◌, ◌<◌, length, length-append, get_or, take, ap, ap₂, ◌++◌, [], ◌∷◌, sym, ◌∙◌, arith, rules}
use Rattle.std.proofs.lemmas.List.{length-take-le, get_or-take}
use Rattle.std.proofs.lemmas.Slice.Zip.{zip_turn}
use Rattle.field.specs.Field.{◌⊗◌}
use Rattle.outer_theory.specs.Sums.{sum}
use Rattle.corrector.proofs.Steps.{sum_more, sum_nothing}
use Rattle.corrector.proofs.locator.combine.Goals as goal

pub loop-coefficient-init : goal.loop-coefficient-init
loop-coefficient-init c = sum_nothing (λ i. get_or c.args.row.now i 0 ⊗ get_or c.args.syndromes.now i 0)

pub loop-coefficient-preserved : goal.loop-coefficient-preserved
loop-coefficient-preserved c =
    let row = take (c.args.shape.limit + 1) c.args.row.now in
    let l = c.loop-coefficient in
    let k = length l.yielded in
    let long : length row ≡ c.args.shape.limit + 1 = length-take-le (c.args.shape.limit + 1) c.args.row.now (omega arith) in
    let turn = zip_turn row c.args.syndromes.now l.yielded c.into_iter-coefficient-iterator.result l.coefficient-iterator c.next.new.self c.next.result (search rules) (search rules) l.yielded_by (c.in-Some.coefficient, c.in-Some.syndrome) c.in-Some.is c.next.ensures.steps in
    let here : k < length row = turn.0 in
    let more : length (l.yielded ++ (c.in-Some.coefficient, c.in-Some.syndrome) ∷ []) ≡ k + 1 = length-append l.yielded ((c.in-Some.coefficient, c.in-Some.syndrome) ∷ []) in
    sum_more k l.sum c.mul-sum.result (λ i. get_or c.args.row.now i 0 ⊗ get_or c.args.syndromes.now i 0) l.invariant
    (c.mul-sum.ensures ∙ ap₂ ◌⊗◌ (turn.2 0 ∙ get_or-take (c.args.shape.limit + 1) c.args.row.now k 0 (omega (arith, here, long))) (turn.3 0))
    ∙ ap (λ (m : ℕ). sum m (λ i. get_or c.args.row.now i 0 ⊗ get_or c.args.syndromes.now i 0)) (sym more)
