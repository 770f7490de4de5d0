use Rattle.coder.proofs.Steps.{blocks_done}
use Rattle.coder.proofs.burst.Burst.write_blocks.Goals as goal

pub returns : goal.returns
returns c =
    blocks_done c.args.self.now.order c.args.self.now.payload.now c.write_message.new.out c.encode.new.coded c.write_message.ensures
    (rw (c.shape-shape.ensures.size, c.shape-shape.ensures.limit, c.profile.ensures.value, c.symbols.ensures) at c.encode.ensures.coded)
