use Rattle.std.proofs.Common.{◌≡◌, ℕ, ◌*◌, ◌<◌, get_or}
use Rattle.words.specs.Words.{word}
use Rattle.decoder.specs.Blocks.{messages}
use Rattle.decoder.proofs.blocks.Blocks.messages.Given as goal

abbrev pub invariant-loop-b : goal.invariant-loop-b
invariant-loop-b l = (k : ℕ) → k < l.shape.size * l.b → get_or l.all k 0 ≡ messages l.shape.size l.shape.limit (word l.self.bytes) k
