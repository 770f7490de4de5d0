use Rattle.std.proofs.Common.{◌≡◌, ◌*◌, ◌≤◌}
use Rattle.words.specs.Words.{word}
use Rattle.standard.specs.Refusals.{asked}
use Rattle.decoder.specs.Blocks.{BlocksTaken}
use Rattle.decoder.proofs.blocks.Blocks.take.Given as goal

abbrev pub invariant-loop-b : goal.invariant-loop-b
invariant-loop-b l =
    record {
      order : l.self.order ≡ l.initial.self.order;
      taken : BlocksTaken (asked l.initial.self.order) l.b (word l.initial.self.bytes) (word l.self.bytes) l.sum;
      few : l.sum ≤ 8 * l.b;
    }
