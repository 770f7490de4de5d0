use Rattle.std.proofs.Common.{get_or, arith}
use Rattle.field.specs.Field.{◌⊗◌}
use Rattle.corrector.proofs.Steps.{added_more}
use Rattle.corrector.proofs.locator.add_multiple.Goals as goal

pub loop-l-preserved : goal.loop-l-preserved
loop-l-preserved c = added_more (λ k. c.args.factor ⊗ get_or c.args.other.now k 0) c.args.row.now c.loop-l.row c.loop-l.l c.mul.result (omega arith) c.mul.ensures c.loop-l.invariant
