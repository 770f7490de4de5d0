use Rattle.std.proofs.Common.{◌≡◌, ℕ, ◌+◌, ◌*◌, ◌<◌, get_or}
use Rattle.outer_theory.proofs.Errors.{Errors}
use Rattle.corrector.proofs.errors.Findings.find.Given as goal

abbrev pub invariant-loop-k : goal.invariant-loop-k
invariant-loop-k l =
    (e : ℕ → ℕ) → Errors l.self.shape.limit (2 * l.self.shape.limit + l.self.shape.size) l.self.syndromes l.self.marks.now e → (k : ℕ) → k < l.k → get_or l.errors k 0 ≡ e k
