use Rattle.std.proofs.Common.{ℕ, ◌*◌, ◌<◌, ◌≤◌, ap, w16, SFits, rules}
use Rattle.std.proofs.lemmas.Int.{to_z-of_z}
use Rattle.words.specs.Words.{flags}
use Rattle.standard.specs.Modulations.{carrier_bits}
use Rattle.standard.proofs.Modulations.{modulated}
use Rattle.constellation.proofs.Hearing.{in_phase_heard, point_heard}
use Rattle.constellation.proofs.hear_point.Goals as goal

pub returns-then-has_quadrature : goal.returns-then-has_quadrature
returns-then-has_quadrature c =
    let m : ℕ = carrier_bits c.args.modulation in
    let f : SFits w16 c.args.p.i = search rules in
    let g : SFits w16 c.args.p.q = search rules in
    let h : 1 < m = search rules in
    point_heard m c.args.t c.axis_bits.result (c.bits.result * c.args.t) c.args.p (flags c.args.bits.now) (flags c.hear_axis.new.bits) (flags c.hear_axis-then-has_quadrature.new.bits)
    (modulated c.args.modulation) c.axis_bits.ensures (ap (λ (b : ℕ). b * c.args.t) c.bits.ensures) h (simp to_z-of_z at c.hear_axis.ensures) (simp to_z-of_z at c.hear_axis-then-has_quadrature.ensures)

pub returns-else-has_quadrature : goal.returns-else-has_quadrature
returns-else-has_quadrature c =
    let m : ℕ = carrier_bits c.args.modulation in
    let f : SFits w16 c.args.p.i = search rules in
    let h : m ≤ 1 = search rules in
    in_phase_heard m c.args.t (c.bits.result * c.args.t) c.args.p (flags c.args.bits.now) (flags c.hear_axis.new.bits)
    (modulated c.args.modulation) (ap (λ (b : ℕ). b * c.args.t) c.bits.ensures) h (simp to_z-of_z at c.hear_axis.ensures)
