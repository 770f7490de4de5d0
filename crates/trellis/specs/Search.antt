-- When a search is refused.
-- Assumes nothing.
use Rattle.std.specs.Prelude.{ℕ, List, [], ◌∷◌, nat_lt}
use Rattle.standard.specs.Refusals.{Row, row}
use Rattle.standard.specs.declared.refusal.Refusal.TheVariants.{Memory}

-- of so many words of lent memory
abbrev pub search_rows : ℕ → List Row
search_rows words = row Memory (nat_lt words 8192) ∷ []
