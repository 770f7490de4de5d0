use Rattle.std.proofs.Common.{◌≡◌, ◌*◌, ◌++◌, length, drop, string_bytes}
use Rattle.words.specs.Words.{flags}
use Rattle.records.specs.Lines.{hex}
use Rattle.records.proofs.text.push_hex.Given as goal

abbrev pub invariant-loop-four : goal.invariant-loop-four
invariant-loop-four l =
    (drop (4 * length l.yielded) l.bits ≡ l.four-iterator.rest.now) × (l.four-iterator.size ≡ 4)
    × (string_bytes l.text ≡ string_bytes l.initial.text ++ hex (length l.yielded) (flags l.bits))
