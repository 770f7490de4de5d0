use mathlib.Core.Path.{◌≡◌}
use Prim.Native.Nat.{◌+◌, ◌*◌}
use native.Mathlib.Omega.{arith}
use lib.ListN.{length}
use Rattle.words.specs.Words.{word, bits}
use Rattle.inner.proofs.Periods.{punctured_long, filled_more}
use Rattle.inner.proofs.Outputs.puncture.Goals as goal

pub loop-index-preserved : goal.loop-index-preserved
loop-index-preserved c =
    let table = c.puncturing-entry-items.result.now in
    let long : length table ≡ c.period-period.result + 1 = cc (punctured_long c.args.rate) in
    filled_more table c.period-period.result c.args.periods c.loop-index.index (bits (word c.args.self.now.xs)) (bits (word c.args.self.now.ys))
    (λ q. bits (word c.source.result.outputs.now) (c.period-period.result * q + c.source.result.place)) c.args.coded.now c.loop-index.coded c.spread.new.coded
    (omega arith) (λ q. c.source.ensures.kept (c.period-period.result * q)) (record { spread = c.spread.ensures.spread; rest = c.spread.ensures.rest }) c.loop-index.invariant
