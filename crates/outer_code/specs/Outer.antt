-- The outer words: the Reed-Solomon code RS(255, 239) over the field of 256 elements, shortened and punctured.
-- Assumes nothing.
use Rattle.std.specs.Prelude.{◌≡◌, ℕ, ◌-◌, ◌*◌, ◌<◌, List, [], ◌∷◌, ◌++◌, length, take, replicate, slice_index}
use Rattle.field.specs.Field.{◌⊕◌, ◌⊗◌, gexp, gpow}

-- the value at x of a polynomial, the coefficient of whose highest power stands first
unfoldable pub evaluated : ℕ → List ℕ → ℕ
evaluated x [] = 0
evaluated x (c ∷ cs) = (c ⊗ gpow x (length cs)) ⊕ evaluated x cs

-- the roots 02^0, 02^1, .., 02^15 of the code's generator are roots of the polynomial
abbrev pub Vanishes : List ℕ → Type 0
Vanishes cs = (j : ℕ) → j < 16 → evaluated (gexp j) cs ≡ 0

-- every entry is a byte
abbrev pub AreBytes : List ℕ → Type 0
AreBytes xs = (k : ℕ) → slice_index xs k < 256

-- w is a block of size message bytes that is meant to bear limit wrong bytes. The message is filled up in front with zeros to
-- 239 bytes, and with 16 parity bytes behind it is a word of RS(255, 239). Neither the zeros nor the last 16 - 2 * limit parity
-- bytes are sent, and the first 2 * limit parity bytes stand before the message.
pub record Outer (size limit : ℕ) (w : List ℕ) : Type 0 where
  pub message : List ℕ
  pub parity : List ℕ
  pub message_length : length message ≡ size
  pub message_bytes : AreBytes message
  pub parity_length : length parity ≡ 16
  pub parity_bytes : AreBytes parity
  pub codeword : Vanishes (replicate (239 - size) 0 ++ (message ++ parity))
  pub block : w ≡ take (2 * limit) parity ++ message
