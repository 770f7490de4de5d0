use Rattle.std.proofs.Common.{◌<◌, ◌≢◌, ◌∙◌, length, arith, get_or-set_other, get_or-set_same, below_more}
use Rattle.constellation.specs.Constellation.{origin}
use Rattle.constellation.proofs.map_by.Goals as goal

pub loop-t-preserved : goal.loop-t-preserved
loop-t-preserved c =
    below_more _ _
    (λ k h. get_or-set_other c.loop-t.points c.loop-t.t k c.point_at.result origin (let ne : k ≢ c.loop-t.t = omega arith in ne) ∙ c.loop-t.invariant k h)
    (get_or-set_same c.loop-t.points c.loop-t.t c.point_at.result origin (let lt : c.loop-t.t < length c.loop-t.points = omega arith in lt) ∙ c.point_at.ensures)
