-- What was heard of the stages of the receive trellis, and the table of what a window costs at each.
-- Assumes nothing.
use Rattle.std.specs.Prelude.{◌≡◌, ℕ, ◌+◌, ◌*◌, ◌%◌, ◌<◌, Bool, List, [], Some, None, Option, slice_index, slice_index_or}
use Rattle.words.specs.Words.{Bits, digit}
use Rattle.inner_words.specs.Receiving.{sent, x_heard, y_heard, cost_of}
use Rattle.standard.specs.declared.profile.Coded.{Coded}
use Rattle.standard.specs.declared.profile.Coded.TheVariants.{X1, Y1, Y2, X3, Y4, X5}
use Rattle.receiver.specs.declared.kinds.Heard.{Heard}

-- an output heard as a number: the bit, or 2 where it is punctured
abbrev pub part : Option Bool → ℕ
part None = 2
part (Some b) = digit b

-- and both
abbrev pub kind : Option Bool → Option Bool → ℕ
kind x y = part x + 3 * part y

-- nothing was heard yet
abbrev pub unheard : Heard
unheard = record { x = None; y = None }

-- and one output more
abbrev pub with_output : Heard → Coded → Bool → Heard
with_output h X1 b = record { x = Some b; y = h.y }
with_output h Y1 b = record { x = h.x; y = Some b }
with_output h Y2 b = record { x = h.x; y = Some b }
with_output h X3 b = record { x = Some b; y = h.y }
with_output h Y4 b = record { x = h.x; y = Some b }
with_output h X5 b = record { x = Some b; y = h.y }

-- what was heard of stage i of a period that sends its coded bits from place j on
abbrev pub heard_of : ℕ → Bits → ℕ → Heard
heard_of i heard j = record { x = x_heard i heard j; y = y_heard i heard j }

-- and of stage k
unfoldable pub heard_at : ℕ → Bits → ℕ → Heard
heard_at p heard k = heard_of (k % p) heard (sent p k)

-- the number of its row of costs, which tells it: no two have the same
abbrev pub row_of : Heard → ℕ
row_of h = kind h.x h.y

-- the rows of the first n stages are filled in, of periods of p
abbrev pub Kinds : ℕ → Bits → List ℕ → ℕ → Type 0
Kinds p heard rows n = (k : ℕ) → k < n → slice_index rows k ≡ row_of (heard_at p heard k)

-- what each window costs where x and y are heard, by its present bit and its register
abbrev pub Row : List (List ℕ) → Option Bool → Option Bool → Type 0
Row row x y = (s : ℕ) (b : Bool) → s < 64 → slice_index (slice_index_or row (digit b) []) s ≡ cost_of (2 * s + digit b) x y

abbrev pub Costs : List (List (List ℕ)) → Type 0
Costs costs = (x y : Option Bool) → Row (slice_index_or costs (kind x y) []) x y
