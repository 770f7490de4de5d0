use Rattle.outer_code.proofs.Filled.{Filled}
use Rattle.outer.proofs.Division.{added}
use Rattle.outer.proofs.add_generator.Given as goal

abbrev pub invariant-loop-i : goal.invariant-loop-i
invariant-loop-i l = Filled (added l.exponent l.initial.rest) 0 l.i l.initial.rest l.rest
