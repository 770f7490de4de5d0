use Rattle.words.specs.Words.{flags}
use Rattle.words.proofs.Numbers.{Read}
use Rattle.words.proofs.number.Given as goal

abbrev pub invariant-loop-bit : goal.invariant-loop-bit
invariant-loop-bit l = Read l.bit-index (flags l.bits) l.v
