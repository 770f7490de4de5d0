-- The outer word that is taken for a block.
-- Assumes nothing.
use Rattle.std.specs.Prelude.{◌≡◌, ℕ, ◌+◌, ◌-◌, ◌≤◌, List, slice_index}
use Rattle.standard.specs.declared.order.Request.{Request}
use Rattle.outer_code.specs.Outer.{Outer}
use Rattle.outer_theory.specs.Syndromes.{differing}
use Rattle.coder.specs.Sending.{profiled}

-- w is the outer word that is taken for what was received as block b: within the correction limit, and in the last block
-- ending in 00
pub record Taken (r : Request) (b : ℕ) (received w : List ℕ) : Type 0 where
  pub outer : Outer (profiled r).message (profiled r).limit w
  pub near : differing received w ≤ (profiled r).limit
  pub tail : b + 1 ≡ r.symbols → slice_index w ((profiled r).block - 1) ≡ 0
