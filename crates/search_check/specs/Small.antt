-- A small trellis that is read from a table of branches, of any form: a branch into a state that has two already is closed.
-- Assumes nothing.
use Rattle.std.specs.Prelude.{ℕ, zero, suc, ◌+◌, ◌*◌, ◌/◌, ◌%◌, ◌≤◌, Bool, cond, ◌&&◌, List, [], Some, None, Option, ◌==◌, nat_lt, slice_index_or}
use Rattle.std.specs.Option.{is_some}
use Rattle.paths.specs.Model.{Model}
use Rattle.paths.specs.Registers.{digit, open_if}
use Rattle.trellis.specs.declared.trellis.Branch.{Branch}

-- a stage's branches, and a trellis': a closed one is None
abbrev pub Stage : Type 0
Stage = List (Option Branch)

abbrev pub Cells : Type 0
Cells = List Stage

-- the cell of branch j of stage k, where j is twice the state and the bit
abbrev pub cell : Cells → ℕ → ℕ → Option Branch
cell cells k j = slice_index_or (slice_index_or cells k []) j None

-- where an open branch leads, and what it costs
abbrev pub lead : Option Branch → ℕ
lead None = 0
lead (Some b) = b.to

abbrev pub toll : Option Branch → ℕ
toll None = 0
toll (Some b) = b.cost

abbrev pub leads_to : ℕ → Option Branch → Bool
leads_to t c = is_some c && lead c == t

-- whether branch j of stage k leads to t
abbrev pub leads : Cells → ℕ → ℕ → ℕ → Bool
leads cells k t j = leads_to t (cell cells k j)

-- how many of the branches below j lead to t
unfoldable pub count : Cells → ℕ → ℕ → ℕ → ℕ
count cells k t zero = 0
count cells k t (suc j) = count cells k t j + digit (leads cells k t j)

-- the branch below j that leads to t and has i others before it
unfoldable pub find : Cells → ℕ → ℕ → ℕ → ℕ → Option ℕ
find cells k t i zero = None
find cells k t i (suc j) = cond (leads cells k t j && count cells k t j == i) (Some j) (find cells k t i j)

abbrev pub as_entry : Cells → ℕ → Option ℕ → Option (ℕ × Bool × ℕ)
as_entry cells k None = None
as_entry cells k (Some j) = Some (j / 2, (j % 2 == 1), toll (cell cells k j))

-- whether branch j of stage k is open: it leads to a state, and fewer than two before it lead there
abbrev pub free : Cells → ℕ → ℕ → ℕ → Bool
free cells n k j = is_some (cell cells k j) && (nat_lt (lead (cell cells k j)) n && nat_lt (count cells k (lead (cell cells k j)) j) 2)

-- n states; the ends are the states below `ends`
abbrev pub small : ℕ → ℕ → ℕ → ℕ → Cells → Bool → Bool → Model
small stages n start ends cells wanted narrow = record {
  stages = stages;
  states = n;
  start = start;
  ends = λ s. nat_lt s ends;
  wanted = wanted;
  narrow = narrow;
  branch = λ k s b. open_if (free cells n k (2 * s + digit b)) (lead (cell cells k (2 * s + digit b)), toll (cell cells k (2 * s + digit b)));
  entry = λ k t i. as_entry cells k (find cells k t (digit i) (2 * n));
}

-- no branch costs more than 15
abbrev pub CheapCell : Option Branch → Type 0
CheapCell c = toll c ≤ 15

abbrev pub CheapStage : Stage → Type 0
CheapStage stage = (j : ℕ) → CheapCell (slice_index_or stage j None)

abbrev pub Cheap : Cells → Type 0
Cheap cells = (k : ℕ) → CheapStage (slice_index_or cells k [])
