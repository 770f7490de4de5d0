use Rattle.std.proofs.Common.{◌<◌, length, ◌∙◌, arith, rules}
use Rattle.paths.proofs.Finish.{start_reached_at}
use Rattle.paths.proofs.Values.{values_same, values_other}
use Rattle.trellis.proofs.survivors.Wanted.last_row.Goals as goal

pub forward-requires : goal.forward-requires
forward-requires g c =
    let law = g.T.Trellis.lawful c.args.self.now.trellis.now in
    let few = law.wanted_few c.args.self.now.on in
    let start = law.start_within in
    let low : c.start-start.result < 64 = omega arith in
    let lt : c.start-start.result < length c.args.lanes = search rules in
    let reached = start_reached_at _ _ _ c.start-start.result c.start-start.ensures
    (values_same g.L.Lane.value c.args.lanes c.start-start.result c.zero.result lt ∙ c.zero.ensures)
    (λ t h ne. values_other g.L.Lane.value c.args.lanes c.start-start.result t c.zero.result ne ∙ c.requires.blank t h) in
    (search rules, (c.requires.below, (c.requires.room, reached)))
