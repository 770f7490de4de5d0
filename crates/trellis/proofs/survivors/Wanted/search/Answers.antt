use Rattle.paths.proofs.Finish.{found_none, found_path}
use Rattle.trellis.proofs.survivors.Wanted.search.Goals as goal

pub returns-in_err-end : goal.returns-in_err-end
returns-in_err-end g c = rw c.from_residual.ensures (found_none _ (g.T.Trellis.lawful c.args.self.now.trellis.now) c.args.self.now.on _ _ _ c.any_last_row-row.ensures c.in_err-end.ensures)

pub returns : goal.returns
returns g c = found_path _ (g.T.Trellis.lawful c.args.self.now.trellis.now) c.args.self.now.on _ _ _ _ _ c.any_last_row-row.ensures c.in_ok-end.ensures c.trace_back.ensures.written c.trace_back.ensures.kept
