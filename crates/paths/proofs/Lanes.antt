-- Rows of lanes, sixteen at a time, of either width.
-- Assumes nothing.
use Rattle.std.proofs.Common.{◌≡◌, ℕ, ◌+◌, ◌<◌, min, Bool, false, cond, ltb, List, map, length, get_or}
use lib.Lanes.{mask_l}

-- the cost that a lane of sixteen bits stands for: 2 ^ 16 - 1 is 'no open path'
abbrev pub wide : ℕ → ℕ
wide x = cond (ltb x 65535) x 536870912

-- the costs that a row of lanes stands for
unfoldable pub values : {X : Type 0} → (X → ℕ) → List X → List ℕ
values value row = map value row

-- the less of two costs, capped
abbrev pub capped_min : ℕ → ℕ → ℕ
capped_min x y = min (min x y) 536870912

-- the first n bits of the mask say where b is less than a, from lane `at` on
abbrev pub Marks : List ℕ → List ℕ → ℕ → ℕ → ℕ → Type 0
Marks a b mask at n = (ms : List Bool) × (length ms ≡ n) × (mask ≡ mask_l ms) × ((j : ℕ) → j < n → get_or ms j false ≡ ltb (get_or b (at + j) 0) (get_or a (at + j) 0))

-- the same of the lanes where a path came
abbrev pub Picks : List ℕ → List ℕ → List ℕ → ℕ → ℕ → ℕ → Type 0
Picks a b next mask at n = (ms : List Bool) × (length ms ≡ n) × (mask ≡ mask_l ms) × ((j : ℕ) → j < n → get_or next (at + j) 0 < 536870912 → get_or ms j false ≡ ltb (get_or b (at + j) 0) (get_or a (at + j) 0))

-- the first n lanes hold the less of the two
abbrev pub Costs : List ℕ → List ℕ → List ℕ → ℕ → Type 0
Costs a b next n = (t : ℕ) → t < n → get_or next t 0 ≡ capped_min (get_or a t 0) (get_or b t 0)

-- sixteen lanes hold the less of the two as they are kept, from `at` on, and those before are as they were
pub record Lanes (less : ℕ → ℕ → ℕ) (a b old new : List ℕ) (mask at : ℕ) : Type 0 where
  pub costs : (j : ℕ) → j < 16 → get_or new (at + j) 0 ≡ less (get_or a (at + j) 0) (get_or b (at + j) 0)
  pub below : (t : ℕ) → t < at → get_or new t 0 ≡ get_or old t 0
  pub marks : Marks a b mask at 16

-- the same of the costs that they stand for
pub record Chunk (a b old new : List ℕ) (mask at : ℕ) : Type 0 where
  pub costs : (j : ℕ) → j < 16 → get_or new (at + j) 0 ≡ capped_min (get_or a (at + j) 0) (get_or b (at + j) 0)
  pub below : (t : ℕ) → t < at → get_or new t 0 ≡ get_or old t 0
  pub picks : Picks a b new mask at 16
