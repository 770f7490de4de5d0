use Rattle.std.proofs.Common.{sym, arith}
use Rattle.paths.proofs.Pushes.{lowered}
use Rattle.trellis.proofs.costs.Stage.push.Goals as goal

pub returns-in_Some-branch : goal.returns-in_Some-branch
returns-in_Some-branch g c =
    let law = g.T.Trellis.lawful c.args.self.now.trellis.now in
    let w = law.bounded _ _ _ _ _ c.args.self.now.early c.requires.low (sym c.in_Some-branch.ensures) in
    lowered _ law _ _ c.args.next.now _ _ c.in_Some-branch.branch.to c.in_Some-branch.branch.cost _ (omega arith) c.args.self.now.early c.requires.low (omega arith) c.in_Some-branch.ensures c.requires.sofar
