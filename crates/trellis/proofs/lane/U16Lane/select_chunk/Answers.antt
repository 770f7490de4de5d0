use Rattle.paths.proofs.Lanewise.{put, part, narrow_lanes}
use Rattle.paths.proofs.Values.{narrow_chunk}
use Rattle.trellis.proofs.lane.U16Lane.select_chunk.Goals as goal

pub returns : goal.returns
unfolding put part
returns c = narrow_chunk _ _ _ _ _ _ (narrow_lanes c.args.a.now c.args.b.now c.args.next.now c.args.at c.told-a c.told-b c.told-next c.requires)
