-- Message bytes copied from blocks, one after another.
-- Assumes nothing.
use Rattle.std.proofs.Common.{◌≡◌, ℕ, ◌+◌, ◌-◌, ◌*◌, ◌<◌, ◌≤◌, List, ◌++◌, length, get_or, take, drop, sym, ap, ◌∙◌, ap₂, arith, length-drop}
use native.Mathlib.Decide.{dec_le}
use borrow.Rule.Slice.PartMut.{put_mid}
use Rattle.std.proofs.lemmas.List.{get_or_append_left, get_or-take, get_or-drop, length-take-le, places}
use Rattle.words.specs.Words.{Bytes, word}
use Rattle.scrambler.specs.Scrambler.{scrambled}
use Rattle.scrambler.proofs.Keys.{scrambled_same}
use Rattle.coder.proofs.Lawfulness.{in_symbol}
use Rattle.decoder.specs.Blocks.{messages}

-- the places of a list whose k places from a on are those of ys
module _ (a k : ℕ) (xs ys : List ℕ) (room : a + k ≤ length xs) (long : length ys ≡ k) where
  before : (i : ℕ) → i < a → get_or (put_mid a k xs ys) i 0 ≡ get_or xs i 0
  before i h = grind (arith, places)

  within : (i : ℕ) → a ≤ i → i < a + k → get_or (put_mid a k xs ys) i 0 ≡ get_or ys (i - a) 0
  within i h l = grind (arith, places)

-- message byte t of block b
message_at : (size limit b t : ℕ) (blocks : List ℕ) → t < size → messages size limit (word blocks) (size * b + t) ≡ get_or blocks ((2 * limit + size) * b + (2 * limit + t)) 0
unfolding messages
message_at size limit b t blocks h =
    let s = in_symbol size b t (omega arith) h in
    ap₂ (λ (x y : ℕ). get_or blocks ((2 * limit + size) * x + (2 * limit + y)) 0) s.0 s.1

-- the messages of one block more
pub copied_more : (size limit b k n from : ℕ) (blocks all copied : List ℕ) → k ≡ size → n ≡ size → from ≡ (2 * limit + size) * b + 2 * limit → size * b + size ≤ length all → from + size ≤ length blocks
    → copied ≡ take n (drop from blocks) → ((i : ℕ) → i < size * b → get_or all i 0 ≡ messages size limit (word blocks) i)
    → (i : ℕ) → i < size * (b + 1) → get_or (put_mid (size * b) k all copied) i 0 ≡ messages size limit (word blocks) i
copied_more size limit b k n from blocks all copied wide long at room there is so i h =
    let whole : length copied ≡ k = ap length is ∙ length-take-le n (drop from blocks) (omega (arith, length-drop from blocks)) ∙ (let e : n ≡ k = omega arith in e) in
    let room' : size * b + k ≤ length all = omega arith in
    elim (dec_le (size * b) i) [
      | yes l ↦
          (let t : i - size * b < size = omega arith in
          let e : size * b + (i - size * b) ≡ i = omega arith in
          within (size * b) k all copied room' whole i l (omega arith) ∙ ap (λ (xs : List ℕ). get_or xs (i - size * b) 0) is ∙ get_or-take n (drop from blocks) (i - size * b) 0 (omega arith)
          ∙ get_or-drop from blocks (i - size * b) 0 ∙ ap (λ (m : ℕ). get_or blocks m 0) (let q : from + (i - size * b) ≡ (2 * limit + size) * b + (2 * limit + (i - size * b)) = omega arith in q)
          ∙ sym (message_at size limit b (i - size * b) blocks t) ∙ ap (messages size limit (word blocks)) e)
      | no l ↦ before (size * b) k all copied room' whole i (omega arith) ∙ so i (omega arith)
    ]

-- the data: the first count message bytes, scrambled once more
pub data_written : (register first count most : ℕ) (f : Bytes) (all copied mixed rest : List ℕ) → register ≡ first → count ≤ most → count ≡ length mixed → count ≡ length copied → copied ≡ take count all
    → ((i : ℕ) → i < most → get_or all i 0 ≡ f i) → ((i : ℕ) → i < length copied → get_or mixed i 0 ≡ scrambled register (word copied) i)
    → (i : ℕ) → i < count → get_or (mixed ++ rest) i 0 ≡ scrambled first f i
data_written register first count most f all copied mixed rest same few long wide is given s i h =
    get_or_append_left mixed rest 0 i (omega arith) ∙ s i (omega arith)
    ∙ scrambled_same register (word copied) f count (λ k l. ap (λ (xs : List ℕ). get_or xs k 0) is ∙ get_or-take count all k 0 l ∙ given k (omega arith)) i h
    ∙ ap (λ (x : ℕ). scrambled x f i) same
