use Rattle.std.proofs.lemmas.Int.{to_z-of_z}
use Rattle.standard.specs.Modulations.{carrier_bits}
use Rattle.standard.proofs.Modulations.{modulated}
use Rattle.constellation.specs.Constellation.{width}
use Rattle.constellation.proofs.Mapping.{width_of}
use Rattle.constellation.proofs.Nearness.{decided_code, code_below}
use Rattle.constellation.proofs.decide.Goals as goal

pub overflow_sub-result-2 : goal.overflow_sub-result-2
overflow_sub-result-2 c =
    let m = carrier_bits c.args.modulation in
    code_below (width m) _ _ c.nearest-n.result (width_of m (modulated c.args.modulation)) c.levels.ensures.count c.nearest-n.ensures

pub returns : goal.returns
returns c =
    let m = carrier_bits c.args.modulation in
    let f = c.ranges.x in
    decided_code (width m) _ c.args.x c.nearest-n.result (width_of m (modulated c.args.modulation)) c.levels.ensures.count (simp to_z-of_z at c.nearest-n.ensures)
