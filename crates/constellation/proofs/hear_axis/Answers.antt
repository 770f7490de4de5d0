use Rattle.std.proofs.Common.{◌≡◌, ℕ, length, ◌∙◌}
use Rattle.std.proofs.lemmas.Int.{to_z-of_z}
use Rattle.standard.specs.Modulations.{carrier_bits}
use Rattle.constellation.specs.Constellation.{width}
use Rattle.words.proofs.Numbers.{part_length}
use Rattle.constellation.proofs.Hearing.{axis_heard}
use Rattle.constellation.proofs.hear_axis.Goals as goal

pub returns : goal.returns
returns c =
    let b : ℕ = width (carrier_bits c.args.modulation) in
    let f = c.ranges.x in
    let l : length c.write_bits.new.bits ≡ b = c.write_bits.auto.bits ∙ part_length c.args.at c.axis_bits.result b c.args.bits.now c.axis_bits.ensures c.requires in
    axis_heard c.args.at c.axis_bits.result b c.args.bits.now c.write_bits.new.bits c.axis_bits.ensures c.requires l c.decide-v.result c.args.x (simp to_z-of_z at c.decide-v.ensures) c.write_bits.ensures
