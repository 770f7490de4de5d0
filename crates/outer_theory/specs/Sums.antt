-- Sums in the field of 256 elements, and how many of some bytes are not 0.
-- Assumes nothing.
use Rattle.std.specs.Prelude.{ℕ, zero, suc, ◌+◌}
use Rattle.field.specs.Field.{◌⊕◌}

-- f 0 + .. + f (n - 1)
unfoldable pub sum : ℕ → (ℕ → ℕ) → ℕ
sum zero f = 0
sum (suc n) f = sum n f ⊕ f n

-- 1 for any number but 0
abbrev pub one_if : ℕ → ℕ
one_if zero = 0
one_if (suc a) = 1

-- how many of f 0, .., f (n - 1) are not 0
unfoldable pub count : ℕ → (ℕ → ℕ) → ℕ
count zero f = 0
count (suc n) f = count n f + one_if (f n)
