-- Rows of costs where no path is wanted: one stage, branch by branch, and the last row.
-- Assumes nothing.
use Rattle.std.proofs.Common.{◌≡◌, ℕ, ◌+◌, ◌*◌, ◌<◌, ◌≤◌, Bool, cond, List, get_or, Some}
use Rattle.paths.specs.Model.{Model}
use Rattle.paths.proofs.Rows.{Least}

-- the branches of a stage in order: state by state, bit 0 first
abbrev pub turn : ℕ → Bool → ℕ
turn s b = 2 * s + cond b 1 0

-- an open branch to t that makes the cost x
pub record Source (m : Model) (k : ℕ) (row : List ℕ) (t x : ℕ) : Type 0 where
  pub s : ℕ
  pub b : Bool
  pub c : ℕ
  pub within : s < m.states
  pub branch : m.branch k s b ≡ Some (t, c)
  pub sum : x ≡ get_or row s 0 + c

-- the row `next` after the first i branches of stage k
pub record Partly (m : Model) (k : ℕ) (row next : List ℕ) (i : ℕ) : Type 0 where
  pub lower : (s : ℕ) (b : Bool) (t c : ℕ) → turn s b < i → m.branch k s b ≡ Some (t, c) → get_or next t 0 ≤ get_or row s 0 + c
  pub met : (t : ℕ) → t < m.states → get_or next t 0 < 536870912 → Source m k row t (get_or next t 0)
  pub capped : (t : ℕ) → t < m.states → get_or next t 0 ≤ 536870912

-- the row has the least costs of k stages
pub record Leasts (m : Model) (k : ℕ) (row : List ℕ) : Type 0 where
  pub at : (t : ℕ) → t < m.states → Least m k t (get_or row t 0)
