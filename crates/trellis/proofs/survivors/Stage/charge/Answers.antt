use Rattle.paths.proofs.Backs.{enters_small}
use Rattle.trellis.proofs.survivors.Stage.charge.Goals as goal

pub of-requires : goal.of-requires
of-requires g c = enters_small _ (g.T.Trellis.lawful c.args.self.now.trellis.now) c.args.self.now.on _ c.args.self.now.early _ _ _ _ _ c.in-Some.ensures
