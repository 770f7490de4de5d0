use Rattle.std.proofs.Common.{arith, rules}
use Rattle.decoder.proofs.Messages.{copied_more}
use Rattle.decoder.proofs.blocks.Blocks.messages.Goals as goal

pub loop-b-preserved : goal.loop-b-preserved
loop-b-preserved c =
    let s = c.shape-shape.result in
    copied_more s.size s.limit c.loop-b.b _ _ _ c.args.self.now.bytes c.loop-b.all c.copy_from_slice.new.self (omega arith) (omega arith) (rw c.block.ensures (omega arith)) (search rules) (search rules) c.copy_from_slice.ensures.after
    c.loop-b.invariant
