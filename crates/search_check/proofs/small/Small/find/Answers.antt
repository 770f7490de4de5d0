use Rattle.std.proofs.Common.{◌≡◌, ◌*◌, ◌<◌, [], get_or, Some, ◌∙◌, sym, arith}
use Rattle.std.proofs.lemmas.List.{get_or-take, length-take}
use Rattle.search_check.specs.Small.{cell}
use Rattle.search_check.proofs.Counts.{at_hand, at_none}
use Rattle.search_check.proofs.small.Small.find.Goals as goal

pub returns-then-count-before : goal.returns-then-count-before
returns-then-count-before c =
    let low : c.loop-j.j < 2 * c.args.self.now.states = (let t = c.loop-j-test.true in let x = length-take (2 * c.args.self.now.states) (get_or c.args.self.now.branches c.args.stage []) in omega arith) in
    let here : cell c.args.self.now.branches c.args.stage c.loop-j.j ≡ Some c.in-Some.branch = sym (get_or-take _ _ _ _ low) ∙ c.in-Some.is in
    at_hand _ _ _ _ _ _ _ low here c.if-branch-state.true (sym c.count.ensures ∙ c.if-count-before.true)

pub returns : goal.returns
returns c = at_none _ _ _ _ _ (λ j a. let l = a.low in let t = c.loop-j-test.false in c.loop-j.invariant j (omega arith) a)
