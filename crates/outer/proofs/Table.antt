-- The table of the logarithms of the generator's coefficients.
-- Assumes nothing.
use Rattle.std.proofs.Common.{◌≡◌, ℕ, ◌<◌, Bool, T, eqb, List, [], ◌∷◌, get_or, eqb→eq}
use Rattle.field.specs.Field.{gexp, xtimes, xtime}
use Rattle.field.proofs.Tests.{all, all_at}
use Rattle.field.proofs.Tables.{logarithm, place, powers}
use Rattle.outer_code.specs.Parity.{generator}

unfoldable pub logs_of : List ℕ → List ℕ
logs_of [] = []
logs_of (g ∷ gs) = logarithm g ∷ logs_of gs

table_test : ℕ → Bool
table_test i = eqb (gexp (get_or (logs_of generator) i 0)) (get_or generator i 0)

table_tested : T (all table_test 16)
unfolding table_test logs_of generator logarithm place powers gexp xtimes xtime
table_tested = tt

pub generator_exp : (i : ℕ) → i < 16 → gexp (get_or (logs_of generator) i 0) ≡ get_or generator i 0
unfolding table_test
generator_exp i h = eqb→eq (gexp (get_or (logs_of generator) i 0)) (get_or generator i 0) (all_at table_test 16 table_tested i h)
