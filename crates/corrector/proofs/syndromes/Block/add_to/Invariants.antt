use Rattle.std.proofs.Common.{◌+◌, ◌*◌}
use Rattle.words.specs.Words.{word}
use Rattle.corrector.proofs.Shares.{Summed}
use Rattle.corrector.proofs.syndromes.Block.add_to.Given as goal

abbrev pub invariant-loop-k : goal.invariant-loop-k
invariant-loop-k l = Summed (2 * l.self.shape.limit) (2 * l.self.shape.limit + l.self.shape.size) (word l.self.bytes.now) l.initial.syndromes l.syndromes l.k
