use Rattle.std.proofs.Common.{ℕ, replicate, refl, ap, ◌∙◌}
use Rattle.std.proofs.lemmas.Simd.{get_or-replicate}
use Rattle.paths.proofs.Lanes.{wide}
use Rattle.paths.proofs.Values.{get_or_values0}
use Rattle.trellis.proofs.lane.U16Lane.blank.Goals as goal

pub returns : goal.returns
returns c = λ t h. get_or_values0 wide refl (replicate {A = ℕ} 64 65535) t ∙ ap wide (get_or-replicate {A = ℕ} 64 t 65535 0 h)
