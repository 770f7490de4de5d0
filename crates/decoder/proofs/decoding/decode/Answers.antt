use Rattle.std.proofs.Common.{length, rules}
use Rattle.decoder.proofs.Clean.{clean}
use Rattle.decoder.proofs.decoding.decode.Goals as goal

pub returns-clause-clean : goal.returns-clause-clean
returns-clause-clean c = clean c.args.request c.args.points.now (length c.args.work.now) c.args.out.now c.decode.new.out c.decode.result (search rules)
