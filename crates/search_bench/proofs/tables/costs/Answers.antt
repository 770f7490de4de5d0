use Rattle.std.proofs.Common.{◌≤◌, [], get_or, arith}
use Rattle.search_bench.proofs.Filled.{by_kind}
use Rattle.search_bench.proofs.tables.costs.Goals as goal

pub returns : goal.returns
returns c kind h few =
    let items = c.from_fn.ensures.items in
    by_kind (λ w row. get_or row h 0 ≤ w) _ [] items.long (λ k l. (items.at k [] l).2.met h few) (omega arith) kind
