use Rattle.std.proofs.Common.{◌≡◌, ℕ, ◌+◌, ◌*◌, ◌<◌, ap, sym, subst, arith, rules}
use Rattle.outer_code.specs.Blocks.{blocks}
use Rattle.words.specs.Words.{Bytes, word}
use Rattle.outer.proofs.Encoding.{block_fits, block_more, written_more, written_outer}
use Rattle.outer.proofs.encode.Goals as goal

pub loop-b-preserved : goal.loop-b-preserved
loop-b-preserved c =
    let size = c.args.shape.size in
    let n = 2 * c.args.shape.limit + size in
    let message_fits = block_fits size c.loop-b.b c.args.count c.loop-b-test.true in
    let coded_fits = block_fits n c.loop-b.b c.args.count c.loop-b-test.true in
    let block = block_more size c.args.shape.limit c.requires.some c.args.shape.few c.loop-b.b _ c.args.message.now c.encode_block.new.coded
    (omega arith) (omega (arith, message_fits, c.requires.there)) c.encode_block.ensures in
    written_more (blocks size c.args.shape.limit (word c.args.message.now)) n c.loop-b.b _ _
    c.args.coded.now c.loop-b.coded c.encode_block.new.coded (ap (λ (n : ℕ). n * c.loop-b.b) c.block-block.ensures) (omega arith)
    (omega (arith, coded_fits, c.requires.room, c.loop-b.auto.coded)) block.0 c.loop-b.invariant block.1

pub returns-clause-words : goal.returns-clause-words
returns-clause-words c =
    let w : Bytes = word c.args.message.now in
    let bytes : (i : ℕ) → w i < 256 = search rules in
    let size = c.args.shape.size in
    let limit = c.args.shape.limit in
    written_outer size limit c.requires.some c.args.shape.few c.args.shape.short w bytes c.args.count c.loop-b.coded
    (λ i h. c.loop-b.invariant.inside i (let e : c.loop-b.b ≡ c.args.count = omega arith in subst (λ (b : ℕ). i < b * (2 * limit + size)) (sym e) h))
