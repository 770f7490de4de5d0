-- What it is to correct a block.
-- Assumes nothing.
use Rattle.std.specs.Prelude.{◌≡◌, ℕ, ◌≤◌, List}
use Rattle.outer_code.specs.Outer.{Outer}
use Rattle.outer_theory.specs.Syndromes.{differing}

-- after is the only outer word that differs from before in at most most bytes, and it differs in wrong of them
pub record Corrected (size limit most : ℕ) (before after : List ℕ) (wrong : ℕ) : Type 0 where
  pub outer : Outer size limit after
  pub counted : differing before after ≡ wrong
  pub few : wrong ≤ most
  pub only : (w : List ℕ) → Outer size limit w → differing before w ≤ most → w ≡ after

-- no outer word differs from before in at most most bytes, and it is left as it was
pub record Refused (size limit most : ℕ) (before after : List ℕ) : Type 0 where
  pub none : (w : List ℕ) → Outer size limit w → differing before w ≤ most → ⊥
  pub unchanged : after ≡ before
