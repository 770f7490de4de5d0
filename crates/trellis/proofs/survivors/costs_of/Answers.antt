use Rattle.std.proofs.Common.{◌<◌, ◌≢◌, length, sym, ◌∙◌, arith, length-set, get_or-set_other, get_or-set_same, rules, below_more}
use Rattle.paths.proofs.Values.{get_or_values}
use Rattle.trellis.proofs.survivors.costs_of.Goals as goal

pub loop-t-preserved : goal.loop-t-preserved
loop-t-preserved g c =
    let ll : c.loop-t.t < length c.args.lanes.now = search rules in (
      length-set _ _ _ ∙ c.loop-t.invariant.0,
      below_more _ _
          (λ k h. let ne : k ≢ c.loop-t.t = omega arith in rw get_or-set_other (c.loop-t.invariant.1 k h))
          (let lt : c.loop-t.t < length c.loop-t.row = omega arith in get_or-set_same _ _ _ _ lt ∙ (c.cost.ensures ∙ sym (get_or_values g.L.Lane.value c.args.lanes.now c.loop-t.t _ ll))),
    )
