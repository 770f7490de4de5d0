use Rattle.std.proofs.Common.{◌+◌, ◌*◌, ◌<◌, true, false, length, rules}
use Rattle.paths.proofs.Lanes.{values}
use Rattle.paths.proofs.Values.{candidates_two}
use Rattle.trellis.proofs.survivors.Stage.pair.Goals as goal

pub returns : goal.returns
returns g c =
    let la : 2 * c.args.h + 1 < length c.args.a.now = search rules in
    let lb : 2 * c.args.h + 1 < length c.args.b.now = search rules in
    let m = g.T.Trellis.model c.args.self.now.trellis.now in
    let row = values g.L.Lane.value c.args.self.now.row.now in
    record {
      first = candidates_two g.L.Lane.value m c.args.self.now.k false row c.args.a.now c.args.h _ _ la c.requires.first c.candidate-even_first.ensures c.candidate-odd_first.ensures;
      second = candidates_two g.L.Lane.value m c.args.self.now.k true row c.args.b.now c.args.h _ _ lb c.requires.second c.candidate-even_second.ensures c.candidate-odd_second.ensures;
    }
