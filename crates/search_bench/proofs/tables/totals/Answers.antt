use Rattle.std.proofs.Common.{◌≡◌, refl}
use Rattle.search_bench.proofs.Filled.{by_kind}
use Rattle.search_bench.proofs.tables.totals.Goals as goal

pub returns : goal.returns
returns c kind =
    let items = c.from_fn.ensures.items in
    by_kind (λ w x. x ≡ w) _ 0 items.long (λ k l. (items.at k 0 l).2.met) refl kind
