-- The field of 256 elements: a byte stands for a polynomial of degree below 8 over the two bits, its bit i being the
-- coefficient of x^i, and sums and products are taken modulo x^8 + x^4 + x^3 + x^2 + 1. The element x is the byte 02.
-- Assumes nothing.
use Rattle.std.specs.Prelude.{ℕ, zero, suc, ◌*◌, ◌/◌, ◌%◌}
use Rattle.std.specs.Int.Bits.{bit_xor}

infixl 60 ◌⊕◌
infixl 70 ◌⊗◌
-- the sum; also the difference
unfoldable pub ◌⊕◌ : ℕ → ℕ → ℕ
a ⊕ b = bit_xor a b

-- x times a: in the place of x^8 comes x^4 + x^3 + x^2 + 1, which is the byte 29
unfoldable pub xtime : ℕ → ℕ
xtime a = bit_xor (2 * (a % 128)) (29 * (a / 128 % 2))

-- the sum of x^i times a over those of the lowest n bits i of b that are 1
unfoldable pub multiples : ℕ → ℕ → ℕ → ℕ
multiples zero a b = zero
multiples (suc n) a b = bit_xor (a * (b % 2)) (multiples n (xtime a) (b / 2))

-- the product
unfoldable pub ◌⊗◌ : ℕ → ℕ → ℕ
a ⊗ b = multiples 8 (a % 256) (b % 256)

-- x^k times a
unfoldable pub xtimes : ℕ → ℕ → ℕ
xtimes zero a = a
xtimes (suc k) a = xtime (xtimes k a)

-- the power k of the primitive element 02
unfoldable pub gexp : ℕ → ℕ
gexp k = xtimes k 1

-- a to the power k
unfoldable pub gpow : ℕ → ℕ → ℕ
gpow a zero = 1
gpow a (suc k) = a ⊗ gpow a k
