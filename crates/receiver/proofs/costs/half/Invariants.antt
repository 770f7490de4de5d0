use Rattle.std.proofs.Common.{◌≡◌, ℕ, ◌+◌, ◌*◌, ◌<◌, length, get_or}
use Rattle.words.specs.Words.{digit}
use Rattle.inner_words.specs.Receiving.{cost_of}
use Rattle.receiver.proofs.costs.half.Given as goal

abbrev pub invariant-loop-register : goal.invariant-loop-register
invariant-loop-register l = (length l.entry-items ≡ 64) × ((s : ℕ) → s < l.register → get_or l.entry-items s 0 ≡ cost_of (2 * s + digit l.bit) l.heard.x l.heard.y)
