-- The parity of a message: what is left of it, times x^16, by the generator's polynomial.
-- Assumes nothing.
use Rattle.std.specs.Prelude.{ℕ, List, [], ◌∷◌, replicate}
use Rattle.field.specs.Field.{◌⊕◌, ◌⊗◌}

-- the coefficients of (x + 02^0)(x + 02^1) .. (x + 02^15), highest power first, but for that of x^16, which is 1
unfoldable pub generator : List ℕ
generator = 59 ∷ 13 ∷ 104 ∷ 189 ∷ 68 ∷ 209 ∷ 30 ∷ 8 ∷ 163 ∷ 65 ∷ 41 ∷ 229 ∷ 98 ∷ 50 ∷ 36 ∷ 59 ∷ []

-- rs moved up by one place, plus feedback times gs
unfoldable pub mix : ℕ → List ℕ → List ℕ → List ℕ
mix feedback rs [] = []
mix feedback [] (g ∷ gs) = (feedback ⊗ g) ∷ mix feedback [] gs
mix feedback (r ∷ rs) (g ∷ gs) = (r ⊕ (feedback ⊗ g)) ∷ mix feedback rs gs

-- the rest after one more byte of the message
unfoldable pub next : List ℕ → ℕ → List ℕ
next [] d = []
next (r ∷ rs) d = mix (d ⊕ r) rs generator

-- the rest after all bytes of the message
unfoldable pub rest : List ℕ → List ℕ → List ℕ
rest r [] = r
rest r (d ∷ ds) = rest (next r d) ds

-- the 16 parity bytes
unfoldable pub parity_of : List ℕ → List ℕ
parity_of ds = rest (replicate 16 0) ds
