use Rattle.std.proofs.Common.{get_or}
use Rattle.field.specs.Field.{◌⊗◌}
use Rattle.outer_code.proofs.Filled.{Filled}
use Rattle.corrector.proofs.Steps.{added}
use Rattle.corrector.proofs.locator.add_multiple.Given as goal

abbrev pub invariant-loop-l : goal.invariant-loop-l
invariant-loop-l l = Filled (added (λ k. l.factor ⊗ get_or l.other k 0) l.initial.row) 0 l.l l.initial.row l.row
