use Rattle.std.proofs.Common.{◌≡◌, ◌+◌, ◌*◌, length, arith, rules}
use Rattle.words.specs.Words.{word}
use Rattle.outer_theory.specs.Syndromes.{syndrome}
use Rattle.corrector.proofs.Slices.{added_front}
use Rattle.corrector.proofs.syndromes.Block.syndromes.Goals as goal

pub returns : goal.returns
returns c j l =
    let long : length c.add_to.new.syndromes ≡ c.parity-parity.result = search rules in
    added_front c.add_to.new.syndromes _ c.parity-parity.result 16
    (λ j. syndrome (2 * c.args.self.now.shape.limit) (2 * c.args.self.now.shape.limit + c.args.self.now.shape.size) (word c.args.self.now.bytes.now) j)
    long (omega arith) c.add_to.ensures j (omega arith)
