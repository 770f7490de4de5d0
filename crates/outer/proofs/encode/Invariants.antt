use Rattle.std.proofs.Common.{◌+◌, ◌*◌}
use Rattle.words.specs.Words.{word}
use Rattle.outer_code.specs.Blocks.{blocks}
use Rattle.outer.proofs.Encoding.{Written}
use Rattle.outer.proofs.encode.Given as goal

abbrev pub invariant-loop-b : goal.invariant-loop-b
invariant-loop-b l =
    Written (blocks l.shape.size l.shape.limit (word l.message)) (2 * l.shape.limit + l.shape.size) l.b l.initial.coded l.coded
