use Prim.Native.Nat.{◌+◌, ◌*◌}
use Rattle.words.specs.Words.{word, bits}
use Rattle.inner.proofs.Periods.{Spread}
use Rattle.inner.proofs.Source.spread.Given as goal

abbrev pub invariant-loop-q : goal.invariant-loop-q
invariant-loop-q l = Spread l.period l.index l.q (λ q. bits (word l.self.outputs.now) (l.period * q + l.self.place)) l.initial.coded l.coded
