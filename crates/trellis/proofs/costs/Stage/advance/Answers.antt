use Rattle.std.proofs.Common.{◌≡◌, ◌*◌, subst, arith}
use Rattle.paths.proofs.Pushed.{Partly}
use Rattle.paths.proofs.Pushes.{least_more}
use Rattle.trellis.proofs.costs.Stage.advance.Goals as goal

pub returns : goal.returns
returns g c =
    let m = g.T.Trellis.model c.args.self.now.trellis.now in
    let e : 2 * c.loop-s.s ≡ 2 * m.states = omega arith in
    least_more _ (g.T.Trellis.lawful c.args.self.now.trellis.now) _ _ _ c.args.self.now.early c.requires.least (subst (λ n. Partly m c.args.self.now.k c.args.self.now.row.now c.loop-s.next n) e c.loop-s.invariant)
