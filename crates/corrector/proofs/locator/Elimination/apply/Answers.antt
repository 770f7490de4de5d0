use Rattle.std.proofs.Common.{◌-◌, take, drop, ◌∙◌, arith}
use Rattle.std.proofs.lemmas.List.{get_or-take, get_or-drop}
use Rattle.corrector.proofs.Steps.{applied_from}
use Rattle.corrector.proofs.locator.Elimination.apply.Goals as goal

pub returns : goal.returns
returns c =
    applied_from c.args.equation.now.shape.limit c.args.self.now.rows c.args.r c.args.equation.now.syndromes c.args.equation.now.first c.combine.result (take (16 - c.args.equation.now.first) (drop c.args.equation.now.first c.args.equation.now.syndromes))
    (λ l h. get_or-take (16 - c.args.equation.now.first) (drop c.args.equation.now.first c.args.equation.now.syndromes) l 0 (omega arith) ∙ get_or-drop c.args.equation.now.first c.args.equation.now.syndromes l 0) c.combine.ensures
