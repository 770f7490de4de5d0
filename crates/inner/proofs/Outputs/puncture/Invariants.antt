use Rattle.words.specs.Words.{word, bits}
use Rattle.inner.proofs.Periods.{Filled}
use Rattle.inner.proofs.Outputs.puncture.Given as goal

abbrev pub invariant-loop-index : goal.invariant-loop-index
invariant-loop-index l = Filled l.entry-items l.period l.periods l.index (bits (word l.self.xs)) (bits (word l.self.ys)) l.initial.coded l.coded
