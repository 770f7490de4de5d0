use Rattle.std.proofs.Common.{length, ◌+◌, ◌<◌, ◌≤◌, ◌∙◌, sym, subst, arith, rules}
use Rattle.paths.proofs.Backs.{enters_lane, enters_small, enters_alike}
use Rattle.paths.proofs.Lanes.{values}
use Rattle.paths.proofs.Rows.{via, Alike, into}
use Rattle.paths.proofs.Values.{get_or_values}
use Rattle.trellis.proofs.survivors.Stage.by_entry.Goals as goal

pub offset_bounds-self-e : goal.offset_bounds-self-e
offset_bounds-self-e g c =
    let lt : c.in-Some.e.from < 64 = enters_lane _ (g.T.Trellis.lawful c.args.self.now.trellis.now) c.args.self.now.on _ c.args.self.now.early _ _ _ _ _ c.in-Some.ensures in
    let w = c.args.self.now.full in
    let lt' : c.in-Some.e.from < length c.args.self.now.row.now = omega arith in
    let q = c.type_inv.self in
    search rules

pub bounds-self-e : goal.bounds-self-e
bounds-self-e g c = let w = c.args.self.now.full in let lt = enters_lane _ (g.T.Trellis.lawful c.args.self.now.trellis.now) c.args.self.now.on _ c.args.self.now.early _ _ _ _ _ c.in-Some.ensures in omega arith

pub plus-requires : goal.plus-requires
plus-requires g c =
    let law = g.T.Trellis.lawful c.args.self.now.trellis.now in
    let lt : c.in-Some.e.from < 64 = enters_lane _ law c.args.self.now.on _ c.args.self.now.early _ _ _ _ _ c.in-Some.ensures in
    let long = c.args.self.now.full in
    let e = get_or_values g.L.Lane.value c.args.self.now.row.now c.in-Some.e.from c.index-self-e.result (omega arith) in
    record {
      capped = subst (λ n. n ≤ 536870912) e (c.args.self.now.capped c.in-Some.e.from lt);
      more = let s = enters_small _ law c.args.self.now.on _ c.args.self.now.early _ _ _ _ _ c.in-Some.ensures in let q = c.of.ensures in omega arith;
      room = rw c.of.ensures (λ h l. subst (λ n. n < 536870912 → n + c.in-Some.e.cost < g.L.Lane.top) e (c.args.self.now.room.at _ _ _ _ _ (sym c.in-Some.ensures)) h);
    }

pub returns-in-Some : goal.returns-in-Some
returns-in-Some g c =
    let law = g.T.Trellis.lawful c.args.self.now.trellis.now in
    let lt : c.in-Some.e.from < 64 = enters_lane _ law c.args.self.now.on _ c.args.self.now.early _ _ _ _ _ c.in-Some.ensures in
    let long = c.args.self.now.full in
    let row = values g.L.Lane.value c.args.self.now.row.now in
    let m = g.T.Trellis.model c.args.self.now.trellis.now in
    let e = get_or_values g.L.Lane.value c.args.self.now.row.now c.in-Some.e.from c.index-self-e.result (omega arith) in
    c.plus.ensures ∙ rw c.of.ensures (subst (λ n. Alike (n + c.in-Some.e.cost) (via row (into m c.args.self.now.k c.args.t c.args.second))) e (enters_alike m _ _ _ _ _ _ row c.in-Some.ensures))

pub of-requires : goal.of-requires
of-requires g c = enters_small _ (g.T.Trellis.lawful c.args.self.now.trellis.now) c.args.self.now.on _ c.args.self.now.early _ _ _ _ _ c.in-Some.ensures
