use Rattle.std.proofs.Common.{◌≡◌, ℕ, ◌-◌, ◌/◌, ◌%◌, ◌^◌, ◌<◌, eqb}
use Rattle.words.specs.Words.{flags}
use Rattle.constellation.proofs.write_bits.Given as goal

abbrev pub invariant-loop-u : goal.invariant-loop-u
invariant-loop-u l = (k : ℕ) → k < l.u → flags l.bits k ≡ eqb (l.v / 2 ^ (l.b - 1 - k) % 2) 1
