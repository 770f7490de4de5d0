use Rattle.std.proofs.Common.{◌≡◌, ℕ, ◌+◌, ◌<◌, length, pos, get_or, ap, ◌∙◌, w16, SFits, rules}
use Rattle.std.proofs.lemmas.Int.{to_z-of_z}
use Rattle.words.specs.Words.{flags, value}
use Rattle.standard.specs.Modulations.{carrier_bits}
use Rattle.constellation.specs.Constellation.{level, width}
use Rattle.words.proofs.Numbers.{part_value}
use Rattle.constellation.proofs.axis_at.Goals as goal

pub returns : goal.returns
returns c =
    let b : ℕ = width (carrier_bits c.args.modulation) in
    let v : c.number-v.result ≡ value b (λ u. flags c.args.sent.now (c.args.at + u)) = c.number-v.ensures.value ∙ part_value c.args.at c.axis_bits.result b c.args.sent.now c.axis_bits.ensures c.requires in
    let l : c.number-v.result < length c.levels.result.now = search rules in
    let f : SFits w16 (get_or c.levels.result.now c.number-v.result (pos 0)) = search rules in
    to_z-of_z w16 (get_or c.levels.result.now c.number-v.result (pos 0)) f ∙ c.levels.ensures.values c.number-v.result l ∙ ap (λ (n : ℕ). level b n) v
