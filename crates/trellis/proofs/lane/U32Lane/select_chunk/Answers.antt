use Rattle.paths.proofs.Lanewise.{put, part, caps, wide_lanes}
use Rattle.paths.proofs.Values.{wide_chunk}
use Rattle.trellis.proofs.lane.U32Lane.select_chunk.Goals as goal

pub returns : goal.returns
unfolding put part caps
returns c = wide_chunk _ _ _ _ _ _ (wide_lanes c.args.a.now c.args.b.now c.args.next.now c.args.at c.told-a c.told-b c.told-next c.requires)
