use Rattle.paths.proofs.Backs.{Traced}
use Rattle.trellis.proofs.survivors.Wanted.trace_back.Given as goal

abbrev pub invariant-loop-k : goal.invariant-loop-k
invariant-loop-k g l = Traced (g.T.Trellis.model l.self.trellis.now) l.work l.end l.k l.t l.initial.path l.path
