use Rattle.std.proofs.Common.{ap₂, arith}
use Rattle.outer_code.proofs.Filled.{filled_more}
use lib.Bits.{bit_xor}
use Rattle.field.specs.Field.{◌⊕◌}
use Rattle.outer.proofs.Division.{added}
use Rattle.outer.proofs.add_generator.Goals as goal

pub loop-i-preserved : goal.loop-i-preserved
unfolding ◌⊕◌
loop-i-preserved c =
    filled_more (added c.args.exponent c.args.rest.now) 0 c.loop-i.i _ c.args.rest.now c.loop-i.rest c.loop-i.invariant (omega arith) (omega arith)
    (ap₂ bit_xor (c.loop-i.invariant.behind c.loop-i.i (omega arith)) c.coefficient.ensures)
