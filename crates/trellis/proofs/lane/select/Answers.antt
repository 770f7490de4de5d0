use Rattle.std.proofs.Common.{◌≡◌, ◌+◌, ◌*◌, ◌%◌, ◌^◌, subst, arith}
use lib.Bits.{bit_or}
use Rattle.paths.proofs.Lanes.{Costs, Picks, values}
use Rattle.paths.proofs.Lanewise.{costs_more, picks_more, selected}
use Rattle.trellis.proofs.lane.select.Goals as goal

pub loop-g-preserved : goal.loop-g-preserved
loop-g-preserved g c =
    let a = values g.L.Lane.value c.args.a.now in
    let b = values g.L.Lane.value c.args.b.now in
    let next = values g.L.Lane.value c.select_chunk.new.next in
    let e : 16 * c.loop-g.g + 16 ≡ 16 * (c.loop-g.g + 1) = omega arith in (
      subst (λ n. Costs a b next n) e (costs_more _ _ _ _ _ _ c.select_chunk.ensures c.loop-g.invariant.0),
      subst (λ n. Picks a b next (bit_or c.loop-g.word ((c.select_chunk.result * 2 ^ (16 * c.loop-g.g)) % 2 ^ 64)) 0 n) e (picks_more _ _ _ _ c.loop-g.word c.select_chunk.result (16 * c.loop-g.g) (omega arith) c.loop-g.invariant.1 c.select_chunk.ensures),
    )

pub returns : goal.returns
returns g c = selected _ _ _ _ _ (omega arith) c.loop-g.invariant.0 c.loop-g.invariant.1
