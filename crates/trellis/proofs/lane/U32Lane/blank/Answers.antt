use Rattle.std.proofs.Common.{ℕ, replicate, refl, ap, ◌∙◌}
use Rattle.std.proofs.lemmas.Simd.{get_or-replicate}
use Rattle.paths.proofs.Values.{get_or_values0}
use Rattle.trellis.proofs.lane.U32Lane.blank.Goals as goal

pub returns : goal.returns
returns c = λ t h. get_or_values0 (λ (x : ℕ). x) refl (replicate {A = ℕ} 64 536870912) t ∙ ap (λ (x : ℕ). x) (get_or-replicate {A = ℕ} 64 t 536870912 0 h)
