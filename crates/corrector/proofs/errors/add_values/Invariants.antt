use Rattle.corrector.proofs.Evaluating.{Evaluated}
use Rattle.corrector.proofs.errors.add_values.Given as goal

abbrev pub invariant-loop-l : goal.invariant-loop-l
invariant-loop-l l = Evaluated l.locator l.initial.values l.values l.l
