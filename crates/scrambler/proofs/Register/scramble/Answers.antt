use Rattle.std.proofs.Common.{ℕ, ◌*◌, ◌^◌, ◌<◌, get_or, length, sym, subst, arith, rules}
use Rattle.scrambler.proofs.Keys.{after_lt, bytes_none, bytes_more, bytes_undone}
use Rattle.scrambler.proofs.Register.scramble.Goals as goal

pub loop-byte-init : goal.loop-byte-init
loop-byte-init c = bytes_none c.args.self c.args.bytes.now

pub loop-byte-preserved : goal.loop-byte-preserved
loop-byte-preserved c =
    bytes_more c.args.self c.args.bytes.now c.loop-byte.byte-index c.loop-byte.left c.loop-byte.bytes c.eight-key.result.0 c.eight-key.result.1 (omega arith) (search rules)
    c.loop-byte.invariant c.eight-key.ensures.key c.eight-key.ensures.register

pub returns-clause-undone : goal.returns-clause-undone
returns-clause-undone c =
    let bytes : (k : ℕ) → k < length c.args.bytes.now → get_or c.args.bytes.now k 0 < 256 = search rules in
    bytes_undone c.args.self c.args.bytes.now c.loop-byte.bytes (length c.args.bytes.now) bytes (λ k h. c.loop-byte.invariant.done k (omega arith))

pub returns-clause-below : goal.returns-clause-below
returns-clause-below c = subst (λ (n : ℕ). n < 2 ^ 15) (sym c.loop-byte.invariant.left) (after_lt (8 * c.loop-byte.byte-index) c.args.self (subst (λ (n : ℕ). n < 2 ^ 15) c.self.view_is c.self.invariant))
