use Rattle.standard.specs.Refusals.{asked}
use Rattle.coder.proofs.Steps.{coded_done}
use Rattle.coder.proofs.burst.Burst.write_coded.Goals as goal

pub returns : goal.returns
returns c =
    coded_done (asked c.args.self.now.order) c.args.self.now.payload.now c.write_blocks.new.out c.encode.new.coded c.block_bytes-count.result c.periods.result
    c.block_bytes-count.ensures.value c.periods.ensures.whole c.periods.ensures.coded c.write_blocks.ensures (rw c.profile-rate.ensures.value at c.encode.ensures.encoded)
