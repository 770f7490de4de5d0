use Rattle.std.proofs.Common.{ℕ, ◌-◌, ◌/◌, ◌%◌, ◌^◌, ◌∙◌, eqb, length, arith}
use Rattle.words.specs.Words.{flags}
use Rattle.words.proofs.Bridge.{value_same, value_of}
use Rattle.constellation.proofs.write_bits.Goals as goal

pub returns : goal.returns
returns c =
    let b : ℕ = length c.args.bits.now in
    value_same b (flags c.loop-u.bits) (λ u. eqb (c.args.v / 2 ^ (b - 1 - u) % 2) 1) (λ u h. c.loop-u.invariant u (omega arith)) ∙ value_of b c.args.v c.requires.among
