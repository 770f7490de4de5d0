use Rattle.std.proofs.Common.{◌≡◌, ℕ, ◌+◌, ◌-◌, ◌*◌, List, length, sym, ap, ◌∙◌, subst, arith, rules, MatchOption}
use borrow.Rule.Slice.PartMut.{mid_of, put_mid}
use Rattle.words.specs.Words.{word, part}
use Rattle.outer_theory.specs.Correction.{Corrected, Refused}
use Rattle.corrector.proofs.Slices.{part_mid, part_put}
use Rattle.corrector.proofs.correct_at.Goals as goal

pub returns-clause-answer : goal.returns-clause-answer
returns-clause-answer c =
    let n : ℕ = c.block.result in
    let l : length c.correct.new.block ≡ n = search rules in
    let old : List ℕ = mid_of c.args.at (c.args.at + n - c.args.at) c.args.bytes.now in
    let row : List ℕ = put_mid c.args.at (c.args.at + n - c.args.at) c.args.bytes.now c.correct.new.block in
    let was : part (2 * c.args.shape.limit + c.args.shape.size) c.args.at (word c.args.bytes.now) ≡ old
    = ap (λ (m : ℕ). part m c.args.at (word c.args.bytes.now)) (sym c.block.ensures) ∙ part_mid c.args.at n c.args.bytes.now (omega arith) in
    let is : part (2 * c.args.shape.limit + c.args.shape.size) c.args.at (word row) ≡ c.correct.new.block
    = ap (λ (m : ℕ). part m c.args.at (word row)) (sym c.block.ensures) ∙ part_put c.args.at n c.args.bytes.now (omega arith) c.correct.new.block l in
    subst (λ (b : List ℕ). MatchOption c.correct.result (Refused c.args.shape.size c.args.shape.limit c.args.most b (part (2 * c.args.shape.limit + c.args.shape.size) c.args.at (word row)))
    (λ wrong. Corrected c.args.shape.size c.args.shape.limit c.args.most b (part (2 * c.args.shape.limit + c.args.shape.size) c.args.at (word row)) wrong))
    (sym was)
    (subst (λ (b : List ℕ). MatchOption c.correct.result (Refused c.args.shape.size c.args.shape.limit c.args.most old b)
    (λ wrong. Corrected c.args.shape.size c.args.shape.limit c.args.most old b wrong))
    (sym is) c.correct.ensures)
