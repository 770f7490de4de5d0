use Rattle.std.proofs.Common.{◌≡◌, ◌+◌, ◌∙◌, Some, None, arith, rules}
use Rattle.std.proofs.lemmas.Result.{err_from_is_err_and}
use Rattle.words.specs.Words.{word}
use Rattle.standard.specs.Refusals.{asked}
use Rattle.standard.specs.declared.refusal.Refusal.TheVariants.{Block}
use Rattle.coder.proofs.Steps.{fitting}
use Rattle.decoder.proofs.Taking.{blocks_more, wrong_few, no_block}
use Rattle.decoder.proofs.blocks.Blocks.take.Goals as goal

pub loop-b-preserved : goal.loop-b-preserved
loop-b-preserved c =
    let o = c.args.self.now.order in
    let w = c.in_ok-wrong.wrong in
    let some : c.take_block.result ≡ Some w = grind arith in
    let before = (rw c.loop-b.invariant.order at c.take_block.ensures.before) in
    let past = (rw c.loop-b.invariant.order at c.take_block.ensures.past) in
    let one = (rw (c.loop-b.invariant.order, some) at c.take_block.ensures.taken) in
    let few = wrong_few (asked o) (word c.args.self.now.bytes) (word c.loop-b.self.bytes) c.take_block.new.self.bytes c.loop-b.b c.loop-b.sum w c.loop-b.invariant.taken before past one in
    let f = fitting o in
    record {
      order = c.take_block.ensures.order ∙ c.loop-b.invariant.order;
      taken = blocks_more (asked o) (word c.args.self.now.bytes) (word c.loop-b.self.bytes) c.take_block.new.self.bytes c.loop-b.b c.loop-b.sum w c.loop-b.invariant.taken before past one;
      few = omega (arith, c.loop-b.invariant.few);
    }

pub returns-in_err-wrong-clause-taken : goal.returns-in_err-wrong-clause-taken
returns-in_err-wrong-clause-taken c =
    let o = c.args.self.now.order in
    let none : c.take_block.result ≡ None = grind arith in
    let told : c.in_err-wrong.field-0.0 ≡ Block (c.loop-b.b + 1) = grind arith in
    let e = err_from_is_err_and c.from_residual.result c.from_residual.ensures.1 in
    rw (e.1, e.2)
    (c.loop-b.b + 1, told, no_block (asked o) (word c.args.self.now.bytes) (word c.loop-b.self.bytes) (word c.take_block.new.self.bytes) c.loop-b.b c.loop-b.sum c.loop-b.invariant.taken (search rules) (rw (c.loop-b.invariant.order, none) at c.take_block.ensures.taken))
