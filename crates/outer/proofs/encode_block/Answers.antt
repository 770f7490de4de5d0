use Rattle.std.proofs.Common.{◌++◌, ◌∙◌, List, ℕ, take, ap₂, arith}
use Rattle.std.proofs.lemmas.List.{length-take-le}
use Rattle.outer_code.specs.Blocks.{block_of}
use Rattle.outer.proofs.Encoding.{halves}
use Rattle.outer.proofs.encode_block.Goals as goal

pub returns : goal.returns
unfolding block_of
returns c =
    halves c.parity-sent.result c.args.coded.now c.copy_from_slice.new.self c.copy_from_slice-2.new.self
    (let l = length-take-le c.parity-sent.result c.args.coded.now (omega arith) in omega (arith, c.copy_from_slice.ensures.len)) (omega arith)
    ∙ ap₂ (λ (a b : List ℕ). a ++ b) (c.copy_from_slice.ensures.after ∙ ap₂ take c.parity-sent.ensures c.parity-parity.ensures) c.copy_from_slice-2.ensures.after
