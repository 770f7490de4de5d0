use Rattle.std.proofs.Common.{◌<◌, ap, ◌∙◌, w16, SFits, rules}
use Rattle.std.proofs.lemmas.Int.{to_z-of_z}
use Prim.Native.Nat.{ℕ, ◌*◌}
use Rattle.words.specs.Words.{flags}
use Rattle.standard.specs.Modulations.{carrier_bits}
use Rattle.constellation.proofs.Mapping.{point_by}
use Rattle.constellation.proofs.point_at.Goals as goal

pub returns : goal.returns
returns c =
    let m : ℕ = carrier_bits c.args.modulation in
    let f : SFits w16 c.axis_at-i.result = search rules in
    let g : SFits w16 c.axis_at-q.result = search rules in
    let h : 1 < m = search rules in
    point_by m c.axis_bits.result (c.bits.result * c.args.t) (flags c.args.sent.now) c.args.t _ _ h c.axis_bits.ensures (ap (λ (b : ℕ). b * c.args.t) c.bits.ensures)
    (to_z-of_z w16 c.axis_at-i.result f ∙ c.axis_at-i.ensures) (to_z-of_z w16 c.axis_at-q.result g ∙ c.axis_at-q.ensures)
