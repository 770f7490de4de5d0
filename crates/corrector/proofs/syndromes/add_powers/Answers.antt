use Rattle.std.proofs.Common.{inl, inr, arith}
use Rattle.corrector.proofs.Running.{running_start, running_more}
use Rattle.corrector.proofs.syndromes.add_powers.Goals as goal
use Rattle.corrector.proofs.syndromes.add_powers.Goals.{then-exponent-ge255, else-exponent-ge255}

pub loop-value-init : goal.loop-value-init
loop-value-init c = running_start c.args.start c.args.step c.args.values.now c.requires.low

pub loop-value-preserved : goal.loop-value-preserved
loop-value-preserved c =
    running_more c.args.start c.args.step c.args.values.now c.loop-value.values c.loop-value.exponent c.if-exponent-ge255.exponent c.loop-value.value-index c.power.result
    (omega arith) c.power.ensures
    (elim c.if-exponent-ge255.branch [
      | then-exponent-ge255 w ↦ inr (omega (arith, w.exponent-is, w.if-exponent-ge255.true))
      | else-exponent-ge255 w ↦ inl w.exponent-is
    ])
    (elim c.if-exponent-ge255.branch [
      | then-exponent-ge255 w ↦ omega (arith, w.exponent-is, w.if-exponent-ge255.true, c.loop-value.invariant.low)
      | else-exponent-ge255 w ↦ omega (arith, w.exponent-is, w.if-exponent-ge255.false)
    ])
    c.loop-value.invariant
