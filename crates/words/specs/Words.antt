-- Words by position: bits and bytes, highest bit first. How many places of a word count is said apart.
-- Assumes nothing.
use Rattle.std.specs.Prelude.{Bool, true, false, not, cond, List, [], ◌∷◌, ℕ, zero, suc, ◌+◌, ◌-◌, ◌*◌, ◌/◌, ◌%◌, ◌^◌, eqb, get_or}

-- the bit, and the byte, at each place
abbrev pub Bits : Type 0
Bits = ℕ → Bool

abbrev pub Bytes : Type 0
Bytes = ℕ → ℕ

-- what a slice of bytes, or of bits, holds
abbrev pub word : List ℕ → Bytes
word xs k = get_or xs k 0

abbrev pub flags : List Bool → Bits
flags xs k = get_or xs k false

-- the sum of two bits, and of two words, modulo 2
infixl 65 ◌⊻◌
abbrev pub ◌⊻◌ : Bool → Bool → Bool
false ⊻ b = b
true ⊻ b = not b

abbrev pub plus : Bits → Bits → Bits
plus a b k = a k ⊻ b k

abbrev pub digit : Bool → ℕ
digit b = cond b 1 0

-- the bits of bytes, highest first
abbrev pub bits : Bytes → Bits
bits w k = eqb (w (k / 8) / 2 ^ (7 - k % 8) % 2) 1

-- the first n bits as a number, highest first
unfoldable pub value : ℕ → Bits → ℕ
value zero a = 0
value (suc n) a = 2 * value n a + digit (a n)

-- the bytes of bits
abbrev pub bytes : Bits → Bytes
bytes u i = value 8 (λ t. u (8 * i + t))

-- the first n bytes from a place on, as a list
abbrev pub listed : ℕ → Bytes → List ℕ
listed zero w = []
listed (suc n) w = w 0 ∷ listed n (λ k. w (suc k))

abbrev pub part : ℕ → ℕ → Bytes → List ℕ
part n at w = listed n (λ k. w (at + k))

-- f 0 + .. + f (n - 1)
abbrev pub total : ℕ → (ℕ → ℕ) → ℕ
total zero f = 0
total (suc n) f = total n f + f n

-- the ones among the first n bits
unfoldable pub ones : ℕ → Bits → ℕ
ones zero a = 0
ones (suc n) a = ones n a + digit (a n)
