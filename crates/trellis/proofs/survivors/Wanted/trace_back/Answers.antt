use Rattle.std.proofs.Common.{sym, ◌∙◌, ap, arith}
use Rattle.std.specs.Option.{option_map}
use Rattle.paths.proofs.Backs.{choice_is, traced_there, traced_back}
use Rattle.trellis.proofs.survivors.Wanted.trace_back.Goals as goal

pub unwrap-e-requires : goal.unwrap-e-requires
unwrap-e-requires g c = traced_there _ _ _ c.loop-k.k c.loop-k.t _ _ _ _ _ (choice_is _) (omega arith) c.loop-k.invariant c.entry.ensures

pub loop-k-preserved : goal.loop-k-preserved
loop-k-preserved g c =
    traced_back _ (g.T.Trellis.lawful c.args.self.now.trellis.now) c.args.self.now.on _ _ c.loop-k.k c.loop-k.t _ _ _ _ _ _
    (choice_is _) (omega arith) c.requires.long c.loop-k.invariant (sym (ap (option_map (λ e. (e.from, e.bit, e.cost))) c.unwrap-e.ensures) ∙ c.entry.ensures)
