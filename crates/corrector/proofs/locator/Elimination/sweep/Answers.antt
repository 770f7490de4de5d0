use Rattle.std.proofs.Common.{◌+◌, ◌≤◌, ℕ, Bool, List, Option, Some, sym, ◌∙◌, subst, arith}
use Rattle.outer_theory.proofs.Rows.{Swept}
use Rattle.outer_theory.proofs.Reduce.{swept_pass, swept_pivot, swept_clear}
use Rattle.corrector.proofs.locator.Elimination.sweep.Goals as goal
use Rattle.corrector.proofs.locator.Elimination.sweep.Goals.{then-self-r+then-apply-ne0+in-None, then-self-r+then-apply-ne0+in-Some, else-self-r, else-self-r-via-then-self-r+else-apply-ne0, else-self-r-via-else-self-r}

pub clear-requires-clause-earlier : goal.clear-requires-clause-earlier
clear-requires-clause-earlier c = (c.loop-r.invariant.1.found c.in-Some.p c.in-Some.is).0

pub loop-r-preserved : goal.loop-r-preserved
loop-r-preserved c =
    let low : c.loop-r.r ≤ c.args.equation.now.shape.limit = omega arith in
    let now = λ (q : Option ℕ). Swept c.args.equation.now.shape.limit c.loop-r.self.rows c.loop-r.self.left c.args.equation.now.syndromes c.args.equation.now.first c.loop-r.r q in
    elim c.if-self-r.branch [
      | then-self-r+then-apply-ne0+in-None w ↦ rw (w.self-is, w.pivot-is) (
        c.loop-r.invariant.0,
        swept_pivot c.args.equation.now.shape.limit c.loop-r.self.rows c.loop-r.self.left c.args.equation.now.syndromes c.args.equation.now.first c.loop-r.r
            (subst now w.in-None.is c.loop-r.invariant.1) w.if-self-r.true (λ z. w.if-apply-ne0.true (w.apply.ensures ∙ z)),
      )
      | then-self-r+then-apply-ne0+in-Some w ↦ rw (w.self-is, w.pivot-is) (
        w.clear.ensures.left ∙ c.loop-r.invariant.0,
        subst (λ (left : List Bool). Swept c.args.equation.now.shape.limit w.clear.new.self.rows left c.args.equation.now.syndromes c.args.equation.now.first (c.loop-r.r + 1) (Some w.in-Some.p)) (sym w.clear.ensures.left)
            (swept_clear c.args.equation.now.shape.limit c.loop-r.self.rows w.clear.new.self.rows c.loop-r.self.left c.args.equation.now.syndromes c.args.equation.now.first c.loop-r.r w.in-Some.p c.args.equation.now.shape.few low
            (subst now w.in-Some.is c.loop-r.invariant.1) w.if-self-r.true (λ i l h n. w.clear.ensures.other i l n) w.clear.ensures.changed w.clear.ensures.gone),
      )
      | else-self-r w ↦ rw (w.self-is, w.pivot-is) (
        c.loop-r.invariant.0,
        swept_pass c.args.equation.now.shape.limit c.loop-r.self.rows c.loop-r.self.left c.args.equation.now.syndromes c.args.equation.now.first c.loop-r.r c.loop-r.pivot c.loop-r.invariant.1
            (λ n. elim w.else-self-r.branch [
              | else-self-r-via-then-self-r+else-apply-ne0 v ↦ sym v.apply.ensures ∙ v.if-apply-ne0.false
              | else-self-r-via-else-self-r v ↦ absurd (cc (n, v.if-self-r.false))
            ]),
      )
    ]
