-- The register, and bytes scrambled one by one.
-- Assumes nothing.
use mathlib.Core.Path.{◌≡◌, refl, sym, ◌∙◌, ap, ap₂}
use mathlib.Core.Bool.{Bool, true, false}
use mathlib.Core.List.{List}
use Prim.Native.Nat.{ℕ, zero, suc, ◌+◌, ◌*◌, ◌/◌, ◌%◌, ◌^◌, ◌<◌, ◌≤◌}
use native.Mathlib.Omega.{arith}
use native.Mathlib.Nat.{add-zero, add-suc, div-one}
use native.Mathlib.Decide.{ℕ_discrete}
use lib.Dec.{eqb}
use lib.Bits.{bit_xor}
use lib.ListN.{length, get_or, set}
use lib.Seq.{get_or-set_same, get_or-set_other}
use Rattle.words.specs.Words.{Bytes, word, ◌⊻◌, digit, bits, bytes}
use Rattle.words.proofs.Bridge.{digit_lt, digit_xor, eqb_digit, value_below, value_same, value_xor, bits_bytes, bytes_bits, bits_same}
use Rattle.scrambler.specs.Scrambler.{fresh, pushed, after, scrambled}
use Rattle.scrambler.specs.Eight.{key}

pub key_lt : (k r : ℕ) → key k r < 2 ^ k
unfolding key
key_lt k r = value_below k (λ t. fresh (after t r))

pub fresh_lt : (r : ℕ) → digit (fresh r) < 2
fresh_lt r = digit_lt (fresh r)

pub fresh_is : (r : ℕ) → digit (fresh r) ≡ bit_xor (r / 2 % 2) (r % 2)
unfolding fresh
fresh_is r =
    digit_xor (eqb (r / 2 % 2) 1) (eqb (r / 1 % 2) 1)
    ∙ ap₂ bit_xor (eqb_digit (r / 2 % 2) (omega arith)) (eqb_digit (r / 1 % 2) (omega arith) ∙ ap (λ (x : ℕ). x % 2) (div-one r))

pub pushed_lt : (r : ℕ) → r < 2 ^ 15 → pushed r < 2 ^ 15
unfolding pushed
pushed_lt r h = let f = fresh_lt r in omega arith

pub after_lt : (k r : ℕ) → r < 2 ^ 15 → after k r < 2 ^ 15
unfolding after
after_lt zero r h = h
after_lt (suc k) r h = pushed_lt (after k r) (after_lt k r h)

pub after_add : (j k r : ℕ) → after j (after k r) ≡ after (k + j) r
unfolding after
after_add zero k r = ap (λ (n : ℕ). after n r) (sym (add-zero k))
after_add (suc j) k r = ap pushed (after_add j k r) ∙ ap (λ (n : ℕ). after n r) (sym (add-suc k j))

-- a byte is scrambled by the next eight new bits
pub scrambled_at : (r : ℕ) (w : Bytes) (i : ℕ) → w i < 256 → scrambled r w i ≡ bit_xor (w i) (key 8 (after (8 * i) r))
unfolding scrambled key
scrambled_at r w i h =
    value_xor 8 (λ t. bits w (8 * i + t)) (λ t. fresh (after (8 * i + t) r))
    ∙ ap₂ bit_xor (bytes_bits w i h) (value_same 8 (λ t. fresh (after (8 * i + t) r)) (λ t. fresh (after t (after (8 * i) r))) (λ t l. ap fresh (sym (after_add t (8 * i) r))))

-- the scrambled byte depends on its byte only
pub scrambled_same : (r : ℕ) (v w : Bytes) (n : ℕ) → ((i : ℕ) → i < n → v i ≡ w i) → (i : ℕ) → i < n → scrambled r v i ≡ scrambled r w i
unfolding scrambled
scrambled_same r v w n h i l =
    value_same 8 (λ t. bits v (8 * i + t) ⊻ fresh (after (8 * i + t) r)) (λ t. bits w (8 * i + t) ⊻ fresh (after (8 * i + t) r))
    (λ t m. ap (λ (b : Bool). b ⊻ fresh (after (8 * i + t) r)) (bits_same v w n h (8 * i + t) (omega arith)))

pub scrambled_lt : (r : ℕ) (w : Bytes) (i : ℕ) → scrambled r w i < 256
unfolding scrambled
scrambled_lt r w i = value_below 8 (λ t. bits w (8 * i + t) ⊻ fresh (after (8 * i + t) r))

xor_twice : (a b : Bool) → (a ⊻ b) ⊻ b ≡ a
xor_twice true true = refl
xor_twice true false = refl
xor_twice false true = refl
xor_twice false false = refl

-- scrambling twice gives the bytes back
pub twice : (r : ℕ) (w : Bytes) (i : ℕ) → w i < 256 → scrambled r (scrambled r w) i ≡ w i
unfolding scrambled
twice r w i h =
    value_same 8 (λ t. bits (bytes (λ k. bits w k ⊻ fresh (after k r))) (8 * i + t) ⊻ fresh (after (8 * i + t) r)) (λ t. bits w (8 * i + t))
    (λ t l. ap (λ (b : Bool). b ⊻ fresh (after (8 * i + t) r)) (bits_bytes (λ k. bits w k ⊻ fresh (after k r)) (8 * i + t)) ∙ xor_twice (bits w (8 * i + t)) (fresh (after (8 * i + t) r)))
    ∙ bytes_bits w i h

-- ---- bytes, one by one
pub record Bytewise (register : ℕ) (old : List ℕ) (i r : ℕ) (bs : List ℕ) : Type 0 where
  pub left : r ≡ after (8 * i) register
  pub done : (k : ℕ) → k < i → get_or bs k 0 ≡ scrambled register (word old) k
  pub rest : (k : ℕ) → i ≤ k → get_or bs k 0 ≡ get_or old k 0

pub bytes_none : (register : ℕ) (old : List ℕ) → Bytewise register old 0 register old
unfolding after
bytes_none register old = record { left = refl; done = λ k h. absurd (omega arith); rest = λ k h. refl }

pub bytes_more : (register : ℕ) (old : List ℕ) (i r : ℕ) (bs : List ℕ) (k r' : ℕ) → i < length bs → get_or old i 0 < 256 → Bytewise register old i r bs → k ≡ key 8 r → r' ≡ after 8 r
    → Bytewise register old (i + 1) r' (set bs i (bit_xor (get_or bs i 0) k))
bytes_more register old i r bs k r' l b p ek er =
    record {
      left = er ∙ ap (after 8) p.left ∙ after_add 8 (8 * i) register ∙ ap (λ (n : ℕ). after n register) (let e : 8 * i + 8 ≡ 8 * (i + 1) = omega arith in e);
      done = λ j h. elim (ℕ_discrete j i) [
        | yes q ↦ ap (λ (m : ℕ). get_or (set bs i (bit_xor (get_or bs i 0) k)) m 0) q ∙ get_or-set_same bs i (bit_xor (get_or bs i 0) k) 0 l
            ∙ ap₂ bit_xor (p.rest i (omega arith)) (ek ∙ ap (key 8) p.left) ∙ sym (scrambled_at register (word old) i b) ∙ ap (scrambled register (word old)) (sym q)
        | no q ↦ get_or-set_other bs i j (bit_xor (get_or bs i 0) k) 0 q ∙ p.done j (omega arith)
      ];
      rest = λ j h. get_or-set_other bs i j (bit_xor (get_or bs i 0) k) 0 (omega arith) ∙ p.rest j (omega arith);
    }

-- scrambled from the same register, they are what they were
pub bytes_undone : (register : ℕ) (old bs : List ℕ) (n : ℕ) → ((k : ℕ) → k < n → get_or old k 0 < 256) → ((k : ℕ) → k < n → get_or bs k 0 ≡ scrambled register (word old) k)
    → (k : ℕ) → k < n → scrambled register (word bs) k ≡ get_or old k 0
bytes_undone register old bs n b d k h = scrambled_same register (word bs) (scrambled register (word old)) n d k h ∙ twice register (word old) k (b k h)
