-- What each step of interleaving and of its undoing writes: bit k of a symbol is read at from k and written at to k.
-- Assumes nothing.
use Rattle.std.specs.Prelude.{◌≡◌, ◌⊎◌, ℕ, ◌+◌, ◌*◌, ◌%◌, ◌<◌, ◌≤◌}
use Rattle.words.specs.Words.{Bits}
use Rattle.standard.specs.Modulations.{carrier_bits}
use Rattle.interleaver.specs.declared.Interleaver.{Interleaver}
use Rattle.interleaver.specs.declared.steps.Way.{Way}
use Rattle.interleaver.specs.declared.steps.Way.TheVariants.{Forth, Back}
use Rattle.interleaver.specs.Interleaver.{size, turn, place}

-- where coded bit k is read
abbrev pub from : Way → Interleaver → ℕ → ℕ
from Forth x k = k
from Back x k = place x.subchannels (carrier_bits x.modulation) k

-- where it is written
abbrev pub to : Way → Interleaver → ℕ → ℕ
to Forth x k = place x.subchannels (carrier_bits x.modulation) k
to Back x k = k

-- coded bits so far apart go to places turn c apart
abbrev pub stride : ℕ → ℕ
stride c = 12 * turn c

-- what does not belong to the symbol that starts at base is as it was
abbrev pub Kept : (g c base : ℕ) (before after : Bits) → Type 0
Kept g c base before after = (j : ℕ) → (j < base) ⊎ (base + size g c ≤ j) → after j ≡ before j

-- of the symbol that starts at base, every bit of the word is written
pub record Symbol (g c base : ℕ) (from to : ℕ → ℕ) (word before after : Bits) : Type 0 where
  pub goes : (k : ℕ) → k < size g c → after (base + to k) ≡ word (base + from k)
  pub kept : Kept g c base before after

-- of the symbol that starts at base, every bit a whole number of strides from the first is written, and no other
pub record Run (g c base first : ℕ) (from to : ℕ → ℕ) (word before after : Bits) : Type 0 where
  pub goes : (k : ℕ) → k < size g c → k % stride c ≡ first → after (base + to k) ≡ word (base + from k)
  pub others : (k : ℕ) → k < size g c → (k % stride c ≡ first → ⊥) → after (base + to k) ≡ before (base + to k)
  pub kept : Kept g c base before after

-- of the first n symbols, every bit of the word is written, and no other
pub record Symbols (g c n : ℕ) (from to : ℕ → ℕ) (word before after : Bits) : Type 0 where
  pub goes : (b k : ℕ) → b < n → k < size g c → after (size g c * b + to k) ≡ word (size g c * b + from k)
  pub rest : (j : ℕ) → size g c * n ≤ j → after j ≡ before j
