-- Rows of costs and words of survivors, as the search keeps them. 2 ^ 29 stands for 'no open path'.
-- Assumes nothing.
use Rattle.std.proofs.Common.{◌≡◌, ℕ, zero, suc, ◌+◌, ◌/◌, ◌%◌, ◌^◌, ◌<◌, ◌≤◌, min, Bool, true, false, cond, eqb, ltb, List, get_or, Some, None, Option}
use Rattle.paths.specs.Model.{Model, Path, after}
use Rattle.paths.specs.Ties.{First}
use Rattle.paths.proofs.Paths.{upd}

-- ---- the branches into a state, and what they cost
-- the entry of a lane; a lane that is no state has none
unfoldable pub into : Model → ℕ → ℕ → Bool → Option (ℕ × Bool × ℕ)
into m k t i = cond (ltb t m.states) (m.entry k t i) None

-- the cost of the cheapest path by an entry, from the row before it
abbrev pub via : List ℕ → Option (ℕ × Bool × ℕ) → ℕ
via row None = 536870912
via row (Some e) = get_or row e.0 0 + e.2

-- what an entry charges; past any path where there is none
abbrev pub charge : Option (ℕ × Bool × ℕ) → ℕ
charge None = 536870912
charge (Some e) = e.2

-- equal, or both past the cap
abbrev pub Alike : ℕ → ℕ → Type 0
Alike x v = min x 536870912 ≡ min v 536870912

-- the candidates of the first n lanes by one of the two entries
abbrev pub Candidates : Model → ℕ → Bool → List ℕ → List ℕ → ℕ → Type 0
Candidates m k i row a n = (t : ℕ) → t < n → Alike (get_or a t 0) (via row (into m k t i))

-- no cost is past the cap
abbrev pub Capped : List ℕ → Type 0
Capped row = (s : ℕ) → s < 64 → get_or row s 0 ≤ 536870912

-- no open branch leads past the top
pub record Room (m : Model) (k : ℕ) (row : List ℕ) (top : ℕ) : Type 0 where
  pub at : (t : ℕ) (i : Bool) (s : ℕ) (b : Bool) (c : ℕ) → into m k t i ≡ Some (s, b, c) → get_or row s 0 < 536870912 → get_or row s 0 + c < top

-- no open path costs as much as the top
pub record Below (m : Model) (top : ℕ) : Type 0 where
  pub at : (p : Path) (k t c : ℕ) → k ≤ m.stages → after m p k ≡ Some (t, c) → c < top

-- ---- of two candidates the less, and the second only where it is less
-- the next row, and the word of survivors, whose bits count where a path came
pub record Selected (a b next : List ℕ) (word : ℕ) : Type 0 where
  pub costs : (t : ℕ) → t < 64 → get_or next t 0 ≡ min (min (get_or a t 0) (get_or b t 0)) 536870912
  pub choice : (t : ℕ) → t < 64 → get_or next t 0 < 536870912 → word / 2 ^ t % 2 ≡ cond (ltb (get_or b t 0) (get_or a t 0)) 1 0

-- the same of the model's entries
pub record Relaxed (m : Model) (k : ℕ) (row next : List ℕ) (word : ℕ) : Type 0 where
  pub costs : (t : ℕ) → t < 64 → get_or next t 0 ≡ min (min (via row (into m k t false)) (via row (into m k t true))) 536870912
  pub choice : (t : ℕ) → t < 64 → get_or next t 0 < 536870912 → word / 2 ^ t % 2 ≡ cond (ltb (via row (into m k t true)) (via row (into m k t false))) 1 0

-- ---- the paths that survivors hold
-- which entry a word of survivors has for the state t
abbrev pub chosen : ℕ → ℕ → Bool
chosen word t = eqb (word / 2 ^ t % 2) 1

abbrev pub follow : Option (ℕ × Bool × ℕ) → ℕ → (ℕ → Path) → Path
follow None k f = λ j. false
follow (Some e) k f = upd (f e.0) k e.1

-- the path of k stages to the state t that the survivors hold
unfoldable pub trace : Model → List ℕ → ℕ → ℕ → Path
trace m work zero t = λ j. false
trace m work (suc k) t = follow (into m k t (chosen (get_or work k 0) t)) k (trace m work k)

abbrev pub Onto : Option (ℕ × Bool × ℕ) → (ℕ → Type 0) → Type 0
Onto None P = ⊥
Onto (Some e) P = P e.0

-- each branch that the survivors hold back from t is open
unfoldable pub Trail : Model → List ℕ → ℕ → ℕ → Type 0
Trail m work zero t = Unit {0}
Trail m work (suc k) t = Onto (into m k t (chosen (get_or work k 0) t)) (Trail m work k)

-- ---- what a row holds
-- x is the least cost of an open path of k stages to the state t, or 2 ^ 29 where there is none
pub record Least (m : Model) (k t x : ℕ) : Type 0 where
  pub lower : (v : Path) (c : ℕ) → after m v k ≡ Some (t, c) → x ≤ c
  pub met : x < 536870912 → (w : Path) × (after m w k ≡ Some (t, x))
  pub capped : x ≤ 536870912

-- w is the first path of k stages to the state t of the least cost x; or x is 2 ^ 29 and there is none
pub record Best (m : Model) (k t x : ℕ) (w : Path) : Type 0 where
  pub lower : (v : Path) (c : ℕ) → after m v k ≡ Some (t, c) → x ≤ c
  pub met : x < 536870912 → after m w k ≡ Some (t, x)
  pub first : x < 536870912 → (v : Path) → after m v k ≡ Some (t, x) → First m w v k
  pub capped : x ≤ 536870912

-- each lane has the best path of k stages to its state
abbrev pub Rowed : Model → ℕ → List ℕ → (ℕ → Path) → Type 0
Rowed m k row f = (t : ℕ) → t < 64 → Best m k t (get_or row t 0) (f t)

-- the row and the survivors after k stages
pub record Reached (m : Model) (work : List ℕ) (k : ℕ) (row : List ℕ) : Type 0 where
  pub best : Rowed m k row (trace m work k)
  pub trail : (t : ℕ) → t < 64 → get_or row t 0 < 536870912 → Trail m work k t

-- ---- the end that is taken of the last row
-- of the states below n the cheapest end, and of several the lowest
pub record Chosen (m : Model) (row : List ℕ) (n t : ℕ) : Type 0 where
  pub within : t < n
  pub ends : m.ends t ≡ true
  pub reached : get_or row t 0 < 536870912
  pub least : (u : ℕ) → u < n → m.ends u ≡ true → get_or row t 0 ≤ get_or row u 0
  pub lowest : (u : ℕ) → u < n → m.ends u ≡ true → get_or row t 0 ≡ get_or row u 0 → t ≤ u

abbrev pub End : Model → List ℕ → ℕ → Option ℕ → Type 0
End m row n None = (u : ℕ) → u < n → m.ends u ≡ true → 536870912 ≤ get_or row u 0
End m row n (Some t) = Chosen m row n t

-- what an end costs
abbrev pub end_cost : List ℕ → Option ℕ → ℕ
end_cost row None = 536870912
end_cost row (Some t) = get_or row t 0
