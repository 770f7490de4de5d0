-- Errors that explain the syndromes make an outer word of the block; where they do not, no outer word is near.
-- Assumes nothing.
use Rattle.std.proofs.Common.{◌≡◌, ◌+◌, ◌*◌, length, sym, refl, ◌∙◌, inl, inr, rules}
use Rattle.outer_code.specs.Outer.{AreBytes}
use Rattle.corrector.proofs.Blocks.{accepted, refused}
use Rattle.corrector.proofs.repair.Goals as goal
use Rattle.corrector.proofs.repair.Goals.{else-wrong-most-via-then-wrong-most+else-explains, else-wrong-most-via-else-wrong-most}

pub returns-then-explains : goal.returns-then-explains
returns-then-explains c =
    let b : AreBytes c.args.block.now = search rules in
    let bn : AreBytes c.add_errors.new.block = search rules in
    let ln : length c.add_errors.new.block ≡ length c.args.block.now = search rules in
    let le : length c.find.new.errors ≡ 2 * c.args.shape.limit + c.args.shape.size = search rules in
    accepted c.args.shape.size c.args.shape.limit c.args.most c.args.shape.few c.args.shape.short c.requires.within c.args.block.now c.requires.long b
    c.add_errors.new.block c.find.new.errors c.nonzero-wrong.result ln le bn
    (λ j l. sym (c.requires.syndromes j l) ∙ c.explains.ensures.yes c.if-explains.true j l)
    c.add_errors.ensures c.nonzero-wrong.ensures c.if-wrong-most.true

pub returns-else-wrong-most : goal.returns-else-wrong-most
returns-else-wrong-most c =
    let b : AreBytes c.args.block.now = search rules in
    let la : length c.locator-coefficients.result ≡ 9 = search rules in
    let ba : AreBytes c.locator-coefficients.result = search rules in
    let le : length c.find.new.errors ≡ 2 * c.args.shape.limit + c.args.shape.size = search rules in
    record {
      none = refused c.args.shape.size c.args.shape.limit c.args.most c.args.shape.few c.args.shape.short c.requires.within c.args.block.now c.requires.long b
          c.args.given.now c.locator-coefficients.result c.mark.new.marks c.requires.syndromes la ba
          c.locator-coefficients.ensures.one c.locator-coefficients.ensures.vanish c.mark.ensures
          c.find.new.errors c.nonzero-wrong.result le c.find.ensures c.nonzero-wrong.ensures
          (elim c.else-wrong-most.branch [
            | else-wrong-most-via-then-wrong-most+else-explains v ↦ inr (v.explains.ensures.no v.if-explains.false)
            | else-wrong-most-via-else-wrong-most v ↦ inl v.if-wrong-most.false
          ]);
      unchanged = refl;
    }
