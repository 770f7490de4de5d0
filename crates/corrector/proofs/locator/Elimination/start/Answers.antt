use Rattle.std.proofs.Common.{true, false}
use Rattle.std.proofs.lemmas.List.{get_or-replicate}
use Rattle.outer_theory.proofs.Reduce.{reduced_start}
use Rattle.corrector.proofs.Steps.{triangular_units}
use Rattle.corrector.proofs.locator.Elimination.start.Goals as goal

pub returns : goal.returns
returns c limit s h =
    reduced_start limit c.unit_rows.result _ s h (triangular_units c.unit_rows.result c.unit_rows.ensures limit h) (λ k l. get_or-replicate 9 k true false l)
