-- A block whose syndromes vanish is an outer word as it is.
-- Assumes nothing.
use Rattle.std.proofs.Common.{◌≡◌, length, take, sym, ◌∙◌, arith, rules}
use Rattle.std.proofs.lemmas.List.{length-take-le, get_or-take}
use Rattle.outer_code.specs.Outer.{AreBytes}
use Rattle.corrector.proofs.Blocks.{clean}
use Rattle.corrector.proofs.correct.Goals as goal

pub returns-then-all_zero : goal.returns-then-all_zero
returns-then-all_zero c =
    let b : AreBytes c.args.block.now = search rules in
    let lg : length c.syndromes-given.result ≡ 16 = search rules in
    let lt : length (take c.parity.result c.syndromes-given.result) ≡ c.parity.result = length-take-le c.parity.result c.syndromes-given.result (omega arith) in
    clean c.args.shape.size c.args.shape.limit c.args.most c.args.shape.few c.args.shape.short c.requires.within c.args.block.now c.requires.long b
    (λ j l. sym (c.syndromes-given.ensures j l) ∙ sym (get_or-take c.parity.result c.syndromes-given.result j 0 (omega arith))
    ∙ c.all_zero.ensures.yes c.if-all_zero.true j (omega arith))

pub returns-then-shape-eq0 : goal.returns-then-shape-eq0
returns-then-shape-eq0 c =
    let b : AreBytes c.args.block.now = search rules in
    clean c.args.shape.size c.args.shape.limit c.args.most c.args.shape.few c.args.shape.short c.requires.within c.args.block.now c.requires.long b
    (λ j l. absurd (omega arith))
