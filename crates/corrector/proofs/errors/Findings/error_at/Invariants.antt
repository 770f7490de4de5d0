use Rattle.std.proofs.Common.{◌+◌, ◌*◌}
use Rattle.outer_theory.proofs.Values.{Folding}
use Rattle.corrector.proofs.errors.Findings.error_at.Given as goal

abbrev pub invariant-loop-i : goal.invariant-loop-i
invariant-loop-i l = Folding l.self.shape.limit (2 * l.self.shape.limit + l.self.shape.size) l.k l.self.syndromes l.self.marks.now l.sums l.divisor l.i
