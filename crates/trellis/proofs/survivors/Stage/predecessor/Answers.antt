use Rattle.std.proofs.Common.{◌≡◌, ℕ, Bool, Option, IfSome, sym, subst, arith}
use Rattle.paths.proofs.Entries.{into_is}
use Rattle.trellis.proofs.survivors.Stage.predecessor.Goals as goal

pub returns-then-t-states-clause-named : goal.returns-then-t-states-clause-named
returns-then-t-states-clause-named g c =
    subst (λ (o : Option (ℕ × Bool × ℕ)). IfSome c.predecessor.result (λ from. IfSome o (λ e. from ≡ e.0))) (sym (into_is _ _ _ _ (omega arith))) c.predecessor.ensures.named
