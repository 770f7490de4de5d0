-- A trellis, its paths, and what every trellis keeps.
-- Assumes nothing.
use Rattle.std.specs.Prelude.{◌≡◌, ℕ, zero, suc, ◌+◌, ◌<◌, ◌≤◌, Bool, true, false, ◌⊎◌, Some, None, Option}

pub record Model : Type 0 where
  pub stages : ℕ
  -- how many states there are; they are numbered from 0
  pub states : ℕ
  pub start : ℕ
  -- whether a state is an end
  pub ends : ℕ → Bool
  -- whether the path is wanted, and not its cost alone
  pub wanted : Bool
  -- whether the trellis vouches that every open path costs less than 65,535
  pub narrow : Bool
  -- `branch k s b`: the state to which bit b leads from state s at stage k, and its cost; `None` where it is closed
  pub branch : ℕ → ℕ → Bool → Option (ℕ × ℕ)
  -- `entry k t i`: the first (i = false) and the second (i = true) branch into state t at stage k, as its predecessor, its bit and its cost
  pub entry : ℕ → ℕ → Bool → Option (ℕ × Bool × ℕ)

-- a path is its bit at each stage
abbrev pub Path : Type 0
Path = ℕ → Bool

-- a cost paid before is added
abbrev pub paid : ℕ → Option (ℕ × ℕ) → Option (ℕ × ℕ)
paid c None = None
paid c (Some q) = Some (q.0, c + q.1)

-- one stage more, from a state and the cost paid so far
abbrev pub onward : Model → ℕ → Bool → Option (ℕ × ℕ) → Option (ℕ × ℕ)
onward m k b None = None
onward m k b (Some p) = paid p.1 (m.branch k p.0 b)

-- the state where a path stands after its first k stages, and what it has cost; `None` where one of them is closed
unfoldable pub after : Model → Path → ℕ → Option (ℕ × ℕ)
after m p zero = Some (m.start, 0)
after m p (suc k) = onward m k (p k) (after m p k)

-- What every trellis keeps.
pub record Lawful (m : Model) : Type 0 where
  pub few_stages : m.stages ≤ 7680
  pub few_states : m.states ≤ 4096
  pub start_within : m.start < m.states
  pub bounded : (k s : ℕ) (b : Bool) (t c : ℕ) → k < m.stages → s < m.states → m.branch k s b ≡ Some (t, c) → (t < m.states) × (c ≤ 255)
  -- of a narrow trellis: no open path costs 65,535 or more
  pub cheap : m.narrow ≡ true → (p : Path) (k t c : ℕ) → k ≤ m.stages → after m p k ≡ Some (t, c) → c < 65535
  -- of a trellis whose path is wanted: it has few states, and `entry` lists the open branches into each state, each once, by rising predecessor and then bit
  pub wanted_few : m.wanted ≡ true → m.states ≤ 64
  pub sound : m.wanted ≡ true → (k t : ℕ) (i : Bool) (s : ℕ) (b : Bool) (c : ℕ) → k < m.stages → t < m.states → m.entry k t i ≡ Some (s, b, c) → (s < m.states) × (m.branch k s b ≡ Some (t, c))
  pub complete : m.wanted ≡ true → (k s : ℕ) (b : Bool) (t c : ℕ) → k < m.stages → s < m.states → m.branch k s b ≡ Some (t, c) → (m.entry k t false ≡ Some (s, b, c)) ⊎ (m.entry k t true ≡ Some (s, b, c))
  pub ordered : m.wanted ≡ true → (k t s : ℕ) (b : Bool) (c s' : ℕ) (b' : Bool) (c' : ℕ) → k < m.stages → t < m.states → m.entry k t false ≡ Some (s, b, c) → m.entry k t true ≡ Some (s', b', c') → (s < s') ⊎ ((s ≡ s') × (b ≡ false) × (b' ≡ true))
