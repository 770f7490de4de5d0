use Rattle.outer_theory.proofs.Reduce.{row_vanishes}
use Rattle.corrector.proofs.locator.locator.Goals as goal

pub returns-clause-vanish : goal.returns-clause-vanish
returns-clause-vanish c =
    row_vanishes c.args.shape.limit c.loop-j.elimination.rows c.loop-j.elimination.left c.args.syndromes.now c.loop-j.j c.first_left-r.result c.args.shape.few c.loop-j.invariant c.loop-j-test.false c.first_left-r.ensures.row c.first_left-r.ensures.left
