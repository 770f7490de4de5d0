use Rattle.std.proofs.Common.{Some, None, arith}
use Rattle.paths.proofs.CostEnds.{start_leasts, costed}
use Rattle.trellis.proofs.costs.search_cost.Goals as goal

pub first_costs-requires : goal.first_costs-requires
first_costs-requires g c =
    let law = g.T.Trellis.lawful c.args.trellis.now in
    let few = law.few_states in
    let within = law.start_within in
    let front = c.split_at_mut-front.ensures.front_len in
    let start = c.start.ensures in
    (omega arith, omega arith)

pub forward-requires-clause-least : goal.forward-requires-clause-least
forward-requires-clause-least g c = start_leasts _ (g.T.Trellis.lawful c.args.trellis.now) _ c.start.result c.start.ensures c.first_costs.ensures.here c.first_costs.ensures.elsewhere

pub best_end-requires : goal.best_end-requires
best_end-requires g c =
    let law = g.T.Trellis.lawful c.args.trellis.now in
    let few = law.few_states in
    let front = c.split_at_mut-front.ensures.front_len in
    omega arith

pub bounds-front-end : goal.bounds-front-end
bounds-front-end g c =
    let law = g.T.Trellis.lawful c.args.trellis.now in
    let few = law.few_states in
    let front = c.split_at_mut-front.ensures.front_len in
    let within = c.in_ok-end.ensures.within in
    omega arith

pub returns-in_err-end : goal.returns-in_err-end
returns-in_err-end g c = rw c.from_residual.ensures (costed _ (g.T.Trellis.lawful c.args.trellis.now) _ c.forward.ensures None c.in_err-end.ensures)

pub returns : goal.returns
returns g c = costed _ (g.T.Trellis.lawful c.args.trellis.now) _ c.forward.ensures (Some c.in_ok-end.end) c.in_ok-end.ensures
