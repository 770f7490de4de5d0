use Rattle.std.proofs.Common.{get_or}
use Rattle.outer_code.proofs.Filled.{Filled}
use Rattle.corrector.proofs.Steps.{added}
use Rattle.corrector.proofs.add_errors.Given as goal

abbrev pub invariant-loop-k : goal.invariant-loop-k
invariant-loop-k l = Filled (added (λ k. get_or l.errors k 0) l.initial.block) 0 l.k l.initial.block l.block
