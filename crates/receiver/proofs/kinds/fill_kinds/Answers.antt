use Rattle.std.proofs.Common.{arith}
use Rattle.std.proofs.lemmas.Grind.{common_steps}
use Rattle.receiver.proofs.Stages.{more}
use Rattle.receiver.proofs.kinds.fill_kinds.Goals as goal

pub loop-q-preserved : goal.loop-q-preserved
loop-q-preserved c =
    more c.args.rate c.period-period.result c.loop-q.q _ _ c.args.heard.now c.loop-q.rows c.fill_period.new.rows c.period-period.ensures
    (grind arith) (grind (arith, common_steps)) (omega arith) c.fill_period.ensures c.loop-q.invariant
