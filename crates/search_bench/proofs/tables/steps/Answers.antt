use Rattle.std.proofs.Common.{◌<◌, ◌≤◌, [], arith}
use Rattle.search_bench.specs.Counted.{by_bit}
use Rattle.search_bench.proofs.Filled.{filled}
use Rattle.search_bench.proofs.tables.steps.Goals as goal

pub returns-clause-inside : goal.returns-clause-inside
returns-clause-inside c s b =
    let items = c.from_fn.ensures.items in
    filled (λ row. (by_bit row b).to < 2560) _ _ [] items.long (λ k l. (items.at k [] l).2.met.0 b) (omega arith) s

pub returns-clause-small : goal.returns-clause-small
returns-clause-small c s b =
    let items = c.from_fn.ensures.items in
    filled (λ row. (by_bit row b).cost ≤ 255) _ _ [] items.long (λ k l. (items.at k [] l).2.met.1 b) (omega arith) s
