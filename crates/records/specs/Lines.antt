-- Lines: the text that answers a record.
-- Assumes nothing.
use Rattle.std.specs.Prelude.{ℕ, zero, suc, ◌+◌, ◌*◌, true, List, [], ◌∷◌, ◌++◌, codes, decimal}
use Rattle.std.specs.Fmt.{digit_glyph}
use Rattle.words.specs.Words.{Bits, value}
use Rattle.records.specs.declared.record.Mark.{Mark}
use Rattle.records.specs.declared.record.Mark.TheVariants.{Bu, Unknown}

abbrev pub named : Mark → List ℕ
named Bu = codes "BU"
named Unknown = codes "??"

-- place, mark and answer, parted by one space
abbrev pub begun : ℕ → Mark → ℕ → List ℕ
begun place mark answer = decimal place ++ (codes " " ++ (named mark ++ (codes " " ++ decimal answer)))

-- the first 4 n bits as n hexadecimal capitals
unfoldable pub hex : ℕ → Bits → List ℕ
hex zero u = []
hex (suc n) u = hex n u ++ digit_glyph true (value 4 (λ t. u (4 * n + t))) ∷ []
