use Rattle.std.proofs.Common.{rules, ◌≡◌, [], take, get_or, ◌∙◌, sym}
use Rattle.std.specs.List.{count_by}
use Rattle.search_check.specs.Small.{leads_to}
use Rattle.search_check.proofs.Counts.{counts}
use Rattle.search_check.proofs.small.Small.count.Goals as goal

pub returns : goal.returns
returns c =
    let e : c.count.result ≡ count_by (leads_to c.args.state) (take c.args.j (get_or c.args.self.now.branches c.args.stage [])) = search rules in
    e ∙ sym (counts _ _ _ _)
