-- Eight new bits at once, as the code takes them.
-- Assumes nothing.
use Rattle.std.specs.Prelude.{ℕ}
use Rattle.words.specs.Words.{value}
use Rattle.scrambler.specs.Scrambler.{fresh, after}

-- the first k new bits as a number, the first highest
unfoldable pub key : ℕ → ℕ → ℕ
key k r = value k (λ t. fresh (after t r))
