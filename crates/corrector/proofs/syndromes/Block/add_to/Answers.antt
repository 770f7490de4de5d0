use Rattle.std.proofs.Common.{◌+◌, ◌*◌, arith}
use Rattle.words.specs.Words.{word}
use Rattle.corrector.proofs.Shares.{summed_start, summed_more, summed_end}
use Rattle.corrector.proofs.syndromes.Block.add_to.Goals as goal

pub loop-k-init : goal.loop-k-init
loop-k-init c = summed_start (2 * c.args.self.now.shape.limit) (2 * c.args.self.now.shape.limit + c.args.self.now.shape.size) (word c.args.self.now.bytes.now) c.args.syndromes.now

pub loop-k-preserved : goal.loop-k-preserved
loop-k-preserved c =
    summed_more (2 * c.args.self.now.shape.limit) (2 * c.args.self.now.shape.limit + c.args.self.now.shape.size) (word c.args.self.now.bytes.now) c.args.syndromes.now c.loop-k.syndromes c.add_byte.new.syndromes c.loop-k.k
    (λ j l. c.add_byte.ensures j (omega arith)) c.loop-k.invariant

pub returns : goal.returns
returns c =
    summed_end (2 * c.args.self.now.shape.limit) (2 * c.args.self.now.shape.limit + c.args.self.now.shape.size) (word c.args.self.now.bytes.now) c.args.syndromes.now c.loop-k.syndromes c.loop-k.k (omega arith) c.loop-k.invariant
