-- The blocks of a burst, byte by byte and as outer words.
-- Assumes nothing.
use Rattle.std.proofs.Common.{◌≡◌, ℕ, zero, suc, ◌+◌, ◌-◌, ◌*◌, ◌/◌, ◌%◌, ◌<◌, ◌≤◌, List, [], ◌∷◌, ◌++◌, length, get_or, take, sym, refl, ap, ◌∙◌, subst, ap₂, add-zero, mod-eq_of_lt, mul_comm, div-lt_iff_lt-mul, mul-le-mul_left, arith}
use native.Mathlib.Decide.{dec_le}
use native.Mathlib.Nat.{mul-add-div, mul-add-mod_self_left, div-eq_of_lt}
use Rattle.std.proofs.lemmas.List.{length-append, length-take-le, get_or_append_left, get_or-append_right, get_or-take, ext_get_or}
use Rattle.field.specs.Field.{gexp}
use Rattle.words.specs.Words.{Bytes, listed, part}
use Rattle.words.proofs.Bridge.{length_listed, get_or_listed, listed_same}
use Rattle.outer_code.specs.Outer.{Outer, AreBytes}
use Rattle.outer_code.specs.Parity.{parity_of, next}
use Rattle.outer_code.specs.Blocks.{block_of, blocks}
use Rattle.outer_code.proofs.Parity.{length_parity, parity_bytes, encoded, evaluated_zeros, parity_more}

-- ---- lists of a word's bytes
pub listed_more : (n : ℕ) (w : Bytes) → listed (suc n) w ≡ listed n w ++ w n ∷ []
listed_more zero w = refl
listed_more (suc n) w = ap (λ (xs : List ℕ). w 0 ∷ xs) (listed_more n (λ k. w (suc k)))

pub listed_bytes : (n : ℕ) (w : Bytes) → ((k : ℕ) → w k < 256) → AreBytes (listed n w)
listed_bytes zero w h k = omega arith
listed_bytes (suc n) w h zero = h 0
listed_bytes (suc n) w h (suc k) = listed_bytes n (λ i. w (suc i)) (λ i. h (suc i)) k

-- the parity of one byte more
pub parity_part : (n from : ℕ) (w : Bytes) → parity_of (part (n + 1) from w) ≡ next (parity_of (part n from w)) (w (from + n))
parity_part n from w =
    ap (λ (m : ℕ). parity_of (part m from w)) (let e : n + 1 ≡ suc n = omega arith in e)
    ∙ ap parity_of (listed_more n (λ k. w (from + k))) ∙ parity_more (part n from w) (w (from + n))

-- ---- one block
module _ (limit : ℕ) (few : limit ≤ 8) (d : List ℕ) where
  kept_length : length (take (2 * limit) (parity_of d)) ≡ 2 * limit
  kept_length = length-take-le (2 * limit) (parity_of d) (omega (arith, length_parity d))

  pub block_length : length (block_of limit d) ≡ 2 * limit + length d
  unfolding block_of
  block_length = length-append (take (2 * limit) (parity_of d)) d ∙ ap (λ (m : ℕ). m + length d) kept_length

  pub block_parity : (i : ℕ) → i < 2 * limit → get_or (block_of limit d) i 0 ≡ get_or (parity_of d) i 0
  unfolding block_of
  block_parity i h =
      get_or_append_left (take (2 * limit) (parity_of d)) d 0 i (omega (arith, kept_length)) ∙ get_or-take (2 * limit) (parity_of d) i 0 h

  pub block_message : (t : ℕ) → get_or (block_of limit d) (2 * limit + t) 0 ≡ get_or d t 0
  unfolding block_of
  block_message t =
      get_or-append_right (take (2 * limit) (parity_of d)) d (2 * limit) (2 * limit + t) 0 kept_length (omega arith)
      ∙ ap (λ (m : ℕ). get_or d m 0) (let e : 2 * limit + t - 2 * limit ≡ t = omega arith in e)

  pub block_bytes : AreBytes d → AreBytes (block_of limit d)
  block_bytes h k =
      elim (dec_le (2 * limit) k) [
        | yes l ↦ subst (λ (m : ℕ). m < 256) (sym (block_message (k - 2 * limit)) ∙ ap (λ (m : ℕ). get_or (block_of limit d) m 0) (let e : 2 * limit + (k - 2 * limit) ≡ k = omega arith in e)) (h (k - 2 * limit))
        | no l ↦ subst (λ (m : ℕ). m < 256) (sym (block_parity k (omega arith))) (parity_bytes d k)
      ]

  pub outer_block : (size : ℕ) → size ≤ 239 → length d ≡ size → AreBytes d → Outer size limit (block_of limit d)
  unfolding block_of
  outer_block size hs ld bd =
      record {
        message = d;
        parity = parity_of d;
        message_length = ld;
        message_bytes = bd;
        parity_length = length_parity d;
        parity_bytes = parity_bytes d;
        codeword = λ j h. evaluated_zeros (gexp j) (239 - size) (d ++ parity_of d) ∙ encoded d j h;
        block = refl;
      }

-- ---- the blocks of a burst
-- what a block of a burst holds before it is coded
abbrev pub message_of : ℕ → ℕ → Bytes → List ℕ
message_of size b w = part size (size * b) w

module _ (size limit : ℕ) (some : 0 < size) where
  -- the length of a block
  abbrev N : ℕ
  N = 2 * limit + size

  pub blocks_at : (w : Bytes) (b t : ℕ) → t < 2 * limit + size → blocks size limit w ((2 * limit + size) * b + t) ≡ get_or (block_of limit (message_of size b w)) t 0
  unfolding blocks
  blocks_at w b t h =
      ap₂ (λ (q r : ℕ). get_or (block_of limit (message_of size q w)) r 0)
      (mul-add-div {m = N} (omega arith) b t ∙ ap (λ (m : ℕ). b + m) (div-eq_of_lt h) ∙ add-zero b)
      (mul-add-mod_self_left N b t ∙ mod-eq_of_lt h)

  -- a block as a list
  pub blocks_part : limit ≤ 8 → (w : Bytes) (b : ℕ) → part (2 * limit + size) ((2 * limit + size) * b) (blocks size limit w) ≡ block_of limit (message_of size b w)
  blocks_part few w b =
      ext_get_or 0 (part N (N * b) (blocks size limit w)) (block_of limit (message_of size b w)) (long ∙ sym whole)
      (λ k h. (let l : k < N = subst (λ (m : ℕ). k < m) long h in get_or_listed N (λ i. blocks size limit w (N * b + i)) k l ∙ blocks_at w b k l))
    where
      long : length (part N (N * b) (blocks size limit w)) ≡ N
      long = length_listed N (λ i. blocks size limit w (N * b + i))

      whole : length (block_of limit (message_of size b w)) ≡ N
      whole = block_length limit few (message_of size b w) ∙ ap (λ (m : ℕ). 2 * limit + m) (length_listed size (λ k. w (size * b + k)))

  -- the message's bytes stand in the blocks as they are
  pub blocks_message : limit ≤ 8 → (w : Bytes) (b t : ℕ) → t < size → blocks size limit w ((2 * limit + size) * b + (2 * limit + t)) ≡ w (size * b + t)
  blocks_message few w b t h =
      blocks_at w b (2 * limit + t) (omega arith) ∙ block_message limit few (message_of size b w) t ∙ get_or_listed size (λ k. w (size * b + k)) t h

  pub blocks_parity : limit ≤ 8 → (w : Bytes) (b t : ℕ) → t < 2 * limit → blocks size limit w ((2 * limit + size) * b + t) ≡ get_or (parity_of (message_of size b w)) t 0
  blocks_parity few w b t h = blocks_at w b t (omega arith) ∙ block_parity limit few (message_of size b w) t h

  pub blocks_outer : size ≤ 239 → limit ≤ 8 → (w : Bytes) → ((i : ℕ) → w i < 256) → (b : ℕ) → Outer size limit (part (2 * limit + size) ((2 * limit + size) * b) (blocks size limit w))
  blocks_outer hs few w bytes b =
      subst (Outer size limit) (sym (blocks_part few w b))
      (outer_block limit few (message_of size b w) size hs (length_listed size (λ k. w (size * b + k))) (listed_bytes size (λ k. w (size * b + k)) (λ k. bytes (size * b + k))))

  pub blocks_lt : limit ≤ 8 → (w : Bytes) → ((i : ℕ) → w i < 256) → (i : ℕ) → blocks size limit w i < 256
  unfolding blocks
  blocks_lt few w bytes i =
      block_bytes limit few (message_of size (i / N) w) (listed_bytes size (λ k. w (size * (i / N) + k)) (λ k. bytes (size * (i / N) + k))) (i % N)

  -- the first n messages decide the first n blocks
  pub blocks_same : (n : ℕ) (v w : Bytes) → ((i : ℕ) → i < n * size → v i ≡ w i) → (i : ℕ) → i < n * (2 * limit + size) → blocks size limit v i ≡ blocks size limit w i
  unfolding blocks
  blocks_same n v w same i h =
      ap (λ (d : List ℕ). get_or (block_of limit d) (i % N) 0)
      (listed_same size (λ k. v (size * (i / N) + k)) (λ k. w (size * (i / N) + k)) (λ k l. same (size * (i / N) + k) (within k l)))
    where
      within : (k : ℕ) → k < size → size * (i / N) + k < n * size
      within k l =
          let q : i / N < n = (div-lt_iff_lt-mul {k = N} (omega arith)).1 h in
          let m = mul-le-mul_left size q in
          let c = mul_comm n size in
          omega arith
