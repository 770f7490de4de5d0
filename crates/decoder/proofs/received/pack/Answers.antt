use Rattle.std.proofs.Common.{◌+◌, ◌*◌, ◌<◌, ◌≤◌, ◌≢◌, refl, length, arith, get_or-set_other, get_or-set_same, below_more}
use Rattle.words.proofs.Numbers.{part_value}
use Rattle.decoder.proofs.received.pack.Goals as goal

pub loop-i-preserved : goal.loop-i-preserved
loop-i-preserved c =
    below_more _ _
    (λ k h. let ne : k ≢ c.loop-i.i = omega arith in rw get_or-set_other (c.loop-i.invariant k h))
    (let lt : c.loop-i.i < length c.loop-i.bytes = omega arith in rw (get_or-set_same, c.number.ensures.value) (let long : 8 * c.loop-i.i + 8 ≤ length c.args.bits.now = omega arith in part_value (8 * c.loop-i.i) 8 8 c.args.bits.now refl long))
