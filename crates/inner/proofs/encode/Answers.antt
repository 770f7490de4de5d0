use native.Mathlib.Omega.{arith}
use Rattle.words.specs.Words.{word, bits}
use Rattle.inner.proofs.Periods.{encoded}
use Rattle.inner.proofs.encode.Goals as goal

pub returns-clause-encoded : goal.returns-clause-encoded
returns-clause-encoded c =
    encoded c.args.rate (bits (word c.args.bytes.now)) (bits (word c.of.result.xs)) (bits (word c.of.result.ys)) c.args.periods c.puncture.new.coded
    (λ t l. c.of.ensures.x t (omega arith)) (λ t l. c.of.ensures.y t (omega arith)) c.puncture.ensures.punctured
