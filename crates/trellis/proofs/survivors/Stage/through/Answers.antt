use Rattle.std.proofs.Common.{◌+◌, ◌<◌, ◌≤◌, ◌∙◌, subst, arith}
use Rattle.paths.proofs.Backs.{charge_alike, charge_capped, charge_room}
use Rattle.paths.proofs.Lanes.{values}
use Rattle.paths.proofs.Rows.{via, charge, Alike, into}
use Rattle.paths.proofs.Values.{get_or_values}
use Rattle.trellis.proofs.survivors.Stage.through.Goals as goal

pub plus-requires-clause-capped : goal.plus-requires-clause-capped
plus-requires-clause-capped g c =
    let lt = c.requires.within in
    let long = c.args.self.now.full in
    subst (λ n. n ≤ 536870912) (get_or_values g.L.Lane.value c.args.self.now.row.now c.args.from c.index-self-from.result (omega arith)) (c.args.self.now.capped c.args.from lt)

pub plus-requires-clause-more : goal.plus-requires-clause-more
plus-requires-clause-more g c = rw c.charge.ensures (charge_capped _ (g.T.Trellis.lawful c.args.self.now.trellis.now) c.args.self.now.on _ c.args.self.now.early c.args.t c.args.second)

pub plus-requires-clause-room : goal.plus-requires-clause-room
plus-requires-clause-room g c =
    let lt = c.requires.within in
    let long = c.args.self.now.full in
    let m = g.T.Trellis.model c.args.self.now.trellis.now in
    let o = into m c.args.self.now.k c.args.t c.args.second in
    rw c.charge.ensures
    (subst (λ n. n < 536870912 → charge o < 536870912 → n + charge o < g.L.Lane.top)
    (get_or_values g.L.Lane.value c.args.self.now.row.now c.args.from c.index-self-from.result (omega arith))
    (charge_room m c.args.self.now.k c.args.t c.args.second _ _ c.requires.named _ c.args.self.now.room))

pub returns : goal.returns
returns g c =
    let lt = c.requires.within in
    let long = c.args.self.now.full in
    let row = values g.L.Lane.value c.args.self.now.row.now in
    let m = g.T.Trellis.model c.args.self.now.trellis.now in
    let o = into m c.args.self.now.k c.args.t c.args.second in
    let e = get_or_values g.L.Lane.value c.args.self.now.row.now c.args.from c.index-self-from.result (omega arith) in
    c.plus.ensures
    ∙ rw c.charge.ensures (subst (λ n. Alike (n + charge o) (via row o)) e (charge_alike m c.args.self.now.k c.args.t c.args.second row c.args.from c.requires.named))
