use Rattle.std.proofs.Common.{ℕ, ◌+◌, ◌<◌, ◌≤◌, suc, Bool, List, Option, length, sym, subst, arith, rules}
use Rattle.outer_theory.proofs.Rows.{Swept, left_in}
use Rattle.outer_theory.proofs.Reduce.{reduced_one}
use Rattle.corrector.proofs.locator.Elimination.eliminate.Goals as goal

pub bounds-self-pivot : goal.bounds-self-pivot
bounds-self-pivot c = omega (arith, (c.sweep.ensures.swept.found c.in-Some.pivot c.in-Some.is).0)

pub returns-in-Some : goal.returns-in-Some
returns-in-Some c =
    let long : c.args.equation.now.shape.limit < length c.sweep.new.self.left = search rules in
    reduced_one c.args.equation.now.shape.limit c.sweep.new.self.rows c.sweep.new.self.left c.args.equation.now.syndromes c.args.equation.now.first c.in-Some.pivot long
    (subst (λ (q : Option ℕ). Swept c.args.equation.now.shape.limit c.sweep.new.self.rows c.sweep.new.self.left c.args.equation.now.syndromes c.args.equation.now.first (c.args.equation.now.shape.limit + 1) q) c.in-Some.is c.sweep.ensures.swept)
    (subst (λ (left : List Bool). suc c.args.equation.now.shape.limit ≤ left_in (suc c.args.equation.now.shape.limit) left + c.args.equation.now.first) (sym c.sweep.ensures.left) c.requires.many)
