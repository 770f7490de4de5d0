-- The blocks of a message, written one after another.
-- Assumes nothing.
use Rattle.std.proofs.Common.{◌≡◌, ℕ, ◌+◌, ◌-◌, ◌*◌, ◌<◌, ◌≤◌, List, ◌++◌, length, get_or, take, drop, sym, ap, ◌∙◌, subst, mul_comm, mul-le-mul_left, arith, rules, length-drop}
use native.Mathlib.Decide.{dec_le}
use borrow.Rule.Slice.PartMut.{put_mid}
use Rattle.std.proofs.lemmas.List.{ext_get_or, get_or-take, get_or-drop, length-take-le, places}
use Rattle.std.proofs.lemmas.Slice.{overwrites}
use Rattle.words.specs.Words.{Bytes, word, part}
use Rattle.words.proofs.Bridge.{length_listed, get_or_listed, listed_same}
use Rattle.outer_code.specs.Outer.{Outer}
use Rattle.outer_code.specs.Blocks.{blocks, block_of}
use Rattle.outer_code.proofs.Blocks.{block_length, blocks_at, blocks_outer}

-- the first n places are written, then the others
pub halves : (n : ℕ) (xs ys zs : List ℕ) → length ys ≡ n → n ≤ length xs → put_mid n (length (ys ++ drop n xs) - n) (ys ++ drop n xs) zs ≡ ys ++ zs
halves n xs ys zs ly h = search (rules, overwrites)

-- block b of count blocks of n bytes has room where they all have
pub block_fits : (n b count : ℕ) → b < count → n * b + n ≤ count * n
block_fits n b count h = let m = mul-le-mul_left n h in let e = mul_comm count n in omega arith

-- a slice of a message
part_is : (n at : ℕ) (xs : List ℕ) → at + n ≤ length xs → take n (drop at xs) ≡ part n at (word xs)
part_is n at xs h =
    ext_get_or 0 (take n (drop at xs)) (part n at (word xs)) (long ∙ sym (length_listed n (λ k. word xs (at + k))))
    (λ k l. (let m : k < n = omega (arith, long) in
    get_or-take n (drop at xs) k 0 m ∙ get_or-drop at xs k 0 ∙ sym (get_or_listed n (λ k. word xs (at + k)) k m)))
  where
    long : length (take n (drop at xs)) ≡ n
    long = length-take-le n (drop at xs) (omega (arith, length-drop at xs))

-- the first b blocks of n bytes are those of f, and what stands behind them is as it was
pub record Written (f : ℕ → ℕ) (n b : ℕ) (old new : List ℕ) : Type 0 where
  pub inside : (i : ℕ) → i < b * n → get_or new i 0 ≡ f i
  pub behind : (k : ℕ) → b * n ≤ k → get_or new k 0 ≡ get_or old k 0

-- the places of a list whose k places from a on are those of ys
module _ (a k : ℕ) (xs ys : List ℕ) (room : a + k ≤ length xs) (long : length ys ≡ k) where
  before : (i : ℕ) → i < a → get_or (put_mid a k xs ys) i 0 ≡ get_or xs i 0
  before i h = grind (arith, places)

  within : (i : ℕ) → a ≤ i → i < a + k → get_or (put_mid a k xs ys) i 0 ≡ get_or ys (i - a) 0
  within i h l = grind (arith, places)

  past : (i : ℕ) → a + k ≤ i → get_or (put_mid a k xs ys) i 0 ≡ get_or xs i 0
  past i h = grind (arith, places)

-- one block more
pub written_more : (f : ℕ → ℕ) (n b a k : ℕ) (first old block : List ℕ) → a ≡ n * b → k ≡ n → n * b + n ≤ length old → length block ≡ n → Written f n b first old
    → ((t : ℕ) → t < n → get_or block t 0 ≡ f (n * b + t)) → Written f n (b + 1) first (put_mid a k old block)
written_more f n b a k first old block at wide room long so here =
    let c : b * n ≡ n * b = mul_comm b n in
    let c' : (b + 1) * n ≡ b * n + n = omega arith in
    let room' : a + k ≤ length old = omega arith in
    let long' : length block ≡ k = omega arith in
    record {
      inside = λ i h. elim (dec_le a i) [
        | yes l ↦
            (let e : n * b + (i - a) ≡ i = omega arith in
            within a k old block room' long' i l (omega arith) ∙ here (i - a) (omega arith) ∙ ap f e)
        | no l ↦ before a k old block room' long' i (omega arith) ∙ so.inside i (omega arith)
      ];
      behind = λ i h. past a k old block room' long' i (omega arith) ∙ so.behind i (omega arith);
    }

module _ (size limit : ℕ) (some : 0 < size) (few : limit ≤ 8) where
  abbrev N : ℕ
  N = 2 * limit + size

  -- block b of a message that has it
  pub block_more : (b k : ℕ) (message block : List ℕ) → k ≡ size → size * b + size ≤ length message → block ≡ block_of limit (take k (drop (size * b) message))
      → (length block ≡ 2 * limit + size) × ((t : ℕ) → t < 2 * limit + size → get_or block t 0 ≡ blocks size limit (word message) ((2 * limit + size) * b + t))
  block_more b k message block wide room is =
      let same : block ≡ block_of limit (part size (size * b) (word message)) =
      is ∙ ap (λ (n : ℕ). block_of limit (take n (drop (size * b) message))) wide ∙ ap (block_of limit) (part_is size (size * b) message room) in (
        ap length same ∙ block_length limit few (part size (size * b) (word message)) ∙ ap (λ (n : ℕ). 2 * limit + n) (length_listed size (λ i. word message (size * b + i))),
        λ t h. ap (λ (xs : List ℕ). get_or xs t 0) same ∙ sym (blocks_at size limit some (word message) b t h),
      )

  -- what is written are outer words
  pub written_outer : size ≤ 239 → (w : Bytes) → ((i : ℕ) → w i < 256) → (count : ℕ) (new : List ℕ) → ((i : ℕ) → i < count * (2 * limit + size) → get_or new i 0 ≡ blocks size limit w i)
      → (b : ℕ) → b < count → Outer size limit (part (2 * limit + size) ((2 * limit + size) * b) (word new))
  written_outer hs w bytes count new so b h =
      subst (Outer size limit)
      (sym (listed_same N (λ k. get_or new (N * b + k) 0) (λ k. blocks size limit w (N * b + k)) (λ k l. so (N * b + k) (let f = block_fits N b count h in omega arith))))
      (blocks_outer size limit some hs few w bytes b)
