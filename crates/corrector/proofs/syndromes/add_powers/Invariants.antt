use Rattle.corrector.proofs.Running.{Running}
use Rattle.corrector.proofs.syndromes.add_powers.Given as goal

abbrev pub invariant-loop-value : goal.invariant-loop-value
invariant-loop-value l = Running l.start l.step l.initial.values l.values l.exponent l.value-index
