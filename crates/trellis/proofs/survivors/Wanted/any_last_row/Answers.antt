use Rattle.std.proofs.Common.{arith}
use Rattle.paths.proofs.Finish.{always_below}
use Rattle.trellis.proofs.survivors.Wanted.any_last_row.Goals as goal

pub last_row-requires-else-is_narrow : goal.last_row-requires-else-is_narrow
last_row-requires-else-is_narrow g c = (omega arith, (always_below _ (g.T.Trellis.lawful c.args.self.now.trellis.now), (c.requires.room, c.blank-else-is_narrow.ensures)))
