use Rattle.std.proofs.Common.{sym, arith}
use Rattle.outer_code.proofs.Parity.{parity_none}
use Rattle.outer.proofs.Division.{parity_next}
use Rattle.outer.proofs.parity.Goals as goal

pub loop-byte-init : goal.loop-byte-init
loop-byte-init c = sym parity_none

pub loop-byte-preserved : goal.loop-byte-preserved
loop-byte-preserved c =
    parity_next c.args.message.now c.loop-byte.byte-index c.loop-byte.rest c.divide-rest.result (omega arith) c.loop-byte.invariant c.divide-rest.ensures
