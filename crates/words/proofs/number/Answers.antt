use Rattle.std.proofs.Common.{◌∙◌}
use Rattle.words.specs.Words.{flags}
use Rattle.words.proofs.Numbers.{byte, read_none, read_more}
use Rattle.words.proofs.number.Goals as goal

pub loop-bit-init : goal.loop-bit-init
loop-bit-init c = read_none (flags c.args.bits.now)

pub loop-bit-preserved : goal.loop-bit-preserved
loop-bit-preserved c = read_more c.loop-bit.bit-index c.loop-bit.v c.from.result (flags c.args.bits.now) (c.from.ensures ∙ byte (flags c.args.bits.now c.loop-bit.bit-index)) c.loop-bit.invariant
