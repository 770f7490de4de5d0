use native.Mathlib.Omega.{arith}
use Prim.Native.Nat.{◌+◌, ◌*◌}
use Rattle.words.specs.Words.{word, bits}
use Rattle.inner.proofs.Periods.{among, spread_more}
use Rattle.inner.proofs.Source.spread.Goals as goal

pub loop-q-preserved : goal.loop-q-preserved
loop-q-preserved c =
    let a = among c.args.period c.args.periods c.loop-q.q (omega arith) in
    spread_more c.args.period c.args.index c.loop-q.q (λ q. bits (word c.args.self.outputs.now) (c.args.period * q + c.args.self.place)) c.args.coded.now c.loop-q.coded c.bit_at.result (omega arith) c.bit_at.ensures c.loop-q.invariant
