use Rattle.std.proofs.Common.{arith}
use Rattle.corrector.proofs.Steps.{filled_more}
use Rattle.corrector.proofs.errors.Findings.find.Goals as goal

pub loop-k-preserved : goal.loop-k-preserved
loop-k-preserved c e E = filled_more c.loop-k.errors c.loop-k.k c.error_of.result e (omega arith) (c.loop-k.invariant e E) (c.error_of.ensures e E)

pub returns : goal.returns
returns c e E k l = c.loop-k.invariant e E k (omega arith)
