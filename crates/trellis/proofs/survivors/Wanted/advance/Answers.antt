use Rattle.paths.proofs.Finish.{room_there}
use Rattle.paths.proofs.Reaches.{capped, reach_more}
use Rattle.paths.proofs.Values.{relaxed}
use Rattle.trellis.proofs.survivors.Wanted.advance.Goals as goal

pub invariant_of-stage : goal.invariant_of-stage
invariant_of-stage g c = record {
  full = c.told-row;
  on = c.args.self.now.on;
  early = c.requires.early;
  capped = capped _ _ _ _ c.requires.reached;
  room = room_there _ (g.T.Trellis.lawful c.args.self.now.trellis.now) c.args.self.now.on _ c.requires.below _ _ _ c.requires.early c.requires.reached;
}

pub returns : goal.returns
returns g c = reach_more _ (g.T.Trellis.lawful c.args.self.now.trellis.now) c.args.self.now.on _ _ _ _ _ c.requires.early c.requires.room c.requires.reached (relaxed _ _ _ _ _ _ _ c.candidates.ensures.first c.candidates.ensures.second c.select.ensures)
