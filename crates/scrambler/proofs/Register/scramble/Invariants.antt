use Rattle.scrambler.proofs.Keys.{Bytewise}
use Rattle.scrambler.proofs.Register.scramble.Given as goal

abbrev pub invariant-loop-byte : goal.invariant-loop-byte
invariant-loop-byte l = Bytewise l.fn.self l.initial.bytes l.byte-index l.left l.bytes
