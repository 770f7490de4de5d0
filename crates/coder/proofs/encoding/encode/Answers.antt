use Rattle.std.proofs.Common.{◌≡◌, ◌*◌, length, rules}
use Rattle.coder.proofs.Steps.{points_done}
use Rattle.coder.proofs.encoding.encode.Goals as goal

pub returns-clause-points : goal.returns-clause-points
returns-clause-points c =
    let long : length c.map.new.points ≡ 192 * c.in_ok-burst.burst.order.symbols = search rules in
    let same : length c.args.points.now ≡ length c.map.new.points = search rules in
    rw (← c.in_ok-burst.ensures.order, ← c.in_ok-burst.ensures.payload)
    (points_done c.in_ok-burst.burst.order c.in_ok-burst.burst.payload.now c.write_sent.new.sent c.map.new.points long c.write_sent.ensures.bits
    (rw (c.modulation.ensures, c.profile.ensures.value, same) at c.map.ensures))
