use Rattle.std.proofs.Common.{sym, ◌∙◌, arith}
use Rattle.paths.proofs.Entries.{into_is, into_none}
use Rattle.trellis.proofs.survivors.Stage.entry.Goals as goal

pub returns-then-t-states : goal.returns-then-t-states
returns-then-t-states g c = c.entry.ensures ∙ sym (into_is _ _ _ _ (omega arith))

pub returns-else-t-states : goal.returns-else-t-states
returns-else-t-states g c = sym (into_none _ _ _ _ (omega arith))
