-- What a search finds.
-- Assumes nothing.
use Rattle.std.specs.Prelude.{◌≡◌, ℕ, ◌≤◌, Bool, true, false, List, Some, None, Option, slice_index_or}
use Rattle.paths.specs.Model.{Model, Path, after}
use Rattle.paths.specs.Ties.{First}

-- p is an open path from the start to an end, of cost c
pub record Arrives (m : Model) (p : Path) (c : ℕ) : Type 0 where
  pub end : ℕ
  pub ends : m.ends end ≡ true
  pub stands : after m p m.stages ≡ Some (end, c)

-- no open path leads to an end
abbrev pub Unreachable : Model → Type 0
Unreachable m = (p : Path) (c : ℕ) → Arrives m p c → ⊥

-- x is the least cost of an open path to an end
pub record LeastCost (m : Model) (x : ℕ) : Type 0 where
  pub path : Path
  pub arrives : Arrives m path x
  pub least : (q : Path) (c : ℕ) → Arrives m q c → x ≤ c

-- p is an open path to an end of the least cost x, and the first of these
pub record FirstPath (m : Model) (x : ℕ) (p : Path) : Type 0 where
  pub arrives : Arrives m p x
  pub least : (q : Path) (c : ℕ) → Arrives m q c → x ≤ c
  pub first : (q : Path) → Arrives m q x → First m p q m.stages

-- the path that a row of bits holds
abbrev pub path_of : List Bool → Path
path_of bits j = slice_index_or bits j false

-- a row of bits is as it was from place n on
abbrev pub Kept : ℕ → List Bool → List Bool → Type 0
Kept n old new = (j : ℕ) → n ≤ j → slice_index_or new j false ≡ slice_index_or old j false

abbrev pub By : Bool → Type 0 → Type 0 → Type 0
By true P Q = P
By false P Q = Q

-- what a search answers, and what it makes of the place for the path
abbrev pub Found : Model → List Bool → List Bool → Option ℕ → Type 0
Found m old new None = Unreachable m × (new ≡ old)
Found m old new (Some x) = By m.wanted (FirstPath m x (path_of new) × Kept m.stages old new) (LeastCost m x × (new ≡ old))
