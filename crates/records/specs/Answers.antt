-- Answers: the line of each record, and the text that answers a whole input.
-- Assumes nothing.
use Rattle.std.specs.Prelude.{ℕ, zero, suc, ◌+◌, ◌/◌, List, [], ◌∷◌, ◌++◌, length, drop, Some, None, codes, Option}
use Rattle.standard.specs.declared.order.Request.{Request}
use Rattle.standard.specs.declared.refusal.Refusal.{Refusal}
use Rattle.standard.specs.Refusals.{burst_rows, first, number}
use Rattle.coder.specs.Sending.{burst_length, sent}
use Rattle.records.specs.declared.record.Mark.TheVariants.{Bu}
use Rattle.records.specs.Lines.{begun, hex}
use Rattle.records.specs.Records.{Head, burst, broken, head}

abbrev pub newline : List ℕ
newline = 10 ∷ []

-- a burst's line: its bits if nothing refuses it; after a refusal the line ends
abbrev pub line_of_burst : ℕ → Request → List ℕ → Option Refusal → List ℕ
line_of_burst place r d None = begun place Bu 0 ++ (codes " " ++ (hex (burst_length r / 4) (sent r d) ++ newline))
line_of_burst place r d (Some e) = begun place Bu (number e) ++ newline

abbrev pub line : ℕ → Head → List ℕ
line place (burst r d) = line_of_burst place r d (first (burst_rows r (length d)))
line place (broken m e) = begun place m (number e) ++ newline

-- how many bytes a record takes; the program stops at a broken one
abbrev pub used : Head → Option ℕ
used (burst r d) = Some (9 + length d)
used (broken m e) = None

-- what follows a record of n bytes; nothing follows where the program stops
abbrev pub followed : (ℕ → List ℕ) → Option ℕ → List ℕ
followed f (Some n) = f n
followed f None = []

-- the lines of at most so many records, from a place on
unfoldable pub lines : ℕ → ℕ → List ℕ → List ℕ
lines zero place xs = []
lines (suc most) place [] = []
lines (suc most) place (x ∷ xs) = line place (head (x ∷ xs)) ++ followed (λ n. lines most (place + n) (drop n (x ∷ xs))) (used (head (x ∷ xs)))

-- the text that answers an input: no input has more records than bytes
unfoldable pub text : ℕ → List ℕ → List ℕ
text place xs = lines (length xs) place xs
