use Rattle.std.proofs.Common.{arith}
use Rattle.std.proofs.lemmas.Grind.{common_steps}
use Rattle.words.specs.Words.{flags}
use Rattle.receiver.proofs.Finding.{found_nearest, found_some}
use Rattle.receiver.proofs.nearest.Goals as goal

pub unreachable-requires : goal.unreachable-requires
unreachable-requires c = found_some c.args.rate _ c.args.periods _ (flags c.args.heard.now) _ _ _ c.period-period.ensures (grind (arith, common_steps)) c.in_ok-wrong.ensures.found c.in_default.is

pub returns-clause-nearest : goal.returns-clause-nearest
returns-clause-nearest c = (found_nearest c.args.rate _ c.args.periods _ (flags c.args.heard.now) _ _ _ c.period-period.ensures (grind (arith, common_steps)) c.in_ok-wrong.ensures.found _ c.in-Some.is).0

pub returns-clause-count : goal.returns-clause-count
returns-clause-count c = (found_nearest c.args.rate _ c.args.periods _ (flags c.args.heard.now) _ _ _ c.period-period.ensures (grind (arith, common_steps)) c.in_ok-wrong.ensures.found _ c.in-Some.is).1
