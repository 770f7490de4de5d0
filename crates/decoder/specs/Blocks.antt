-- What each step of taking outer words leaves.
-- Assumes nothing.
use Rattle.std.specs.Prelude.{◌≡◌, ℕ, ◌+◌, ◌-◌, ◌*◌, ◌/◌, ◌%◌, ◌<◌, ◌≤◌, List, Some, None, Option}
use Rattle.words.specs.Words.{Bytes, part, total}
use Rattle.standard.specs.declared.order.Request.{Request}
use Rattle.outer_theory.specs.Syndromes.{differing}
use Rattle.coder.specs.Sending.{profiled}
use Rattle.decoder.specs.Taken.{Taken}

-- block b of bytes
abbrev pub nth : Request → Bytes → ℕ → List ℕ
nth r w b = part (profiled r).block ((profiled r).block * b) w

-- block b is the outer word to take, or there is none
abbrev pub OneTaken : Request → ℕ → Bytes → Bytes → Option ℕ → Type 0
OneTaken r b old new None = (w : List ℕ) → Taken r b (nth r old b) w → ⊥
OneTaken r b old new (Some wrong) = Taken r b (nth r old b) (nth r new b) × (wrong ≡ differing (nth r old b) (nth r new b))

-- the first n blocks are outer words to take, the others as they were
pub record BlocksTaken (r : Request) (n : ℕ) (old new : Bytes) (sum : ℕ) : Type 0 where
  pub taken : (b : ℕ) → b < n → Taken r b (nth r old b) (nth r new b)
  pub summed : sum ≡ total n (λ b. differing (nth r old b) (nth r new b))
  pub rest : (k : ℕ) → (profiled r).block * n ≤ k → new k ≡ old k

-- block number, counted from 1, is the first with no outer word to take
pub record NoBlock (r : Request) (old : Bytes) (number : ℕ) : Type 0 where
  pub some : 1 ≤ number
  pub within : number ≤ r.symbols
  pub none : (w : List ℕ) → Taken r (number - 1) (nth r old (number - 1)) w → ⊥
  pub before : (b : ℕ) → b + 1 < number → (w : List ℕ) × Taken r b (nth r old b) w

-- the message bytes of blocks of 2 * limit + size bytes, one after another
unfoldable pub messages : ℕ → ℕ → Bytes → Bytes
messages size limit w i = w ((2 * limit + size) * (i / size) + (2 * limit + i % size))
