use Rattle.std.proofs.Common.{◌≡◌, take}
use Rattle.outer_code.specs.Parity.{parity_of}
use Rattle.outer.proofs.parity.Given as goal

abbrev pub invariant-loop-byte : goal.invariant-loop-byte
invariant-loop-byte l = l.rest ≡ parity_of (take l.byte-index l.message)
