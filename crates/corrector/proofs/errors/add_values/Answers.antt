use Rattle.std.proofs.Common.{arith}
use Rattle.corrector.proofs.Evaluating.{evaluated_start, evaluated_more}
use Rattle.corrector.proofs.errors.add_values.Goals as goal

pub loop-l-init : goal.loop-l-init
loop-l-init c = evaluated_start c.args.locator.now c.args.values.now

pub loop-l-preserved : goal.loop-l-preserved
loop-l-preserved c =
    evaluated_more c.args.locator.now c.args.values.now c.loop-l.values c.add_coefficient.new.values c.loop-l.l (λ m h. c.add_coefficient.ensures m (omega arith)) c.loop-l.invariant
