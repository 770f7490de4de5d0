use Rattle.std.proofs.Common.{◌+◌, ◌*◌, arith}
use Rattle.outer_theory.proofs.Word.{place_low, place_high}
use Rattle.corrector.proofs.syndromes.place.Goals as goal

pub returns-then-k-parity-clause-is : goal.returns-then-k-parity-clause-is
returns-then-k-parity-clause-is c = omega (arith, place_low (2 * c.args.shape.limit) (2 * c.args.shape.limit + c.args.shape.size) c.args.k (omega arith))

pub returns-else-k-parity-clause-is : goal.returns-else-k-parity-clause-is
returns-else-k-parity-clause-is c = omega (arith, place_high (2 * c.args.shape.limit) (2 * c.args.shape.limit + c.args.shape.size) c.args.k (omega arith))
