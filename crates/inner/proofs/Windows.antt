-- The bits of windows, and the outputs that a window gives.
-- Assumes nothing.
use mathlib.Core.Path.{◌≡◌, refl, sym, ap, ◌∙◌}
use mathlib.Core.Logic.{◌≢◌}
use mathlib.Core.List.{List}
use Prim.Native.Nat.{ℕ, zero, suc, ◌+◌, ◌-◌, ◌*◌, ◌/◌, ◌%◌, ◌^◌, ◌<◌, ◌≤◌}
use native.Mathlib.Omega.{arith}
use native.Mathlib.Nat.{zero-div}
use native.Mathlib.Decide.{dec_le, dec_lt}
use lib.Dec.{eqb}
use lib.Bits.{bit_xor}
use lib.ListN.{get_or, length, set}
use lib.Pow.{shr-shr, field, mod-mod-pow}
use lib.Seq.{get_or-set_same, get_or-set_other}
use Rattle.words.specs.Words.{Bits, Bytes, ◌⊻◌, word, bits}
use Rattle.words.proofs.Bridge.{xor_bit, bit_in_byte}
use Rattle.inner_code.specs.Inner.{earlier, x, y}
use Rattle.inner_code.proofs.Coding.{earlier_on, earlier_is, earlier_none}
use Rattle.inner.specs.Outputs.{bit, x_in, y_in}

-- ---- the bits of a number
parity : (m n : ℕ) → m < 2 → n < 2 → eqb (bit_xor m n) 1 ≡ eqb m 1 ⊻ eqb n 1
parity zero n p q = refl
parity (suc zero) zero p q = refl
parity (suc zero) (suc zero) p q = refl
parity (suc zero) (suc (suc n)) p q = absurd (omega arith)
parity (suc (suc m)) n p q = absurd (omega arith)

bit_of_xor : (m n b : ℕ) → bit (bit_xor m n) b ≡ bit m b ⊻ bit n b
bit_of_xor m n b = ap (λ (z : ℕ). eqb z 1) (xor_bit m n b) ∙ parity (m / 2 ^ b % 2) (n / 2 ^ b % 2) (omega arith) (omega arith)

bit_shifted : (n s b : ℕ) → bit (n / 2 ^ s) b ≡ bit n (b + s)
bit_shifted n s b = ap (λ (z : ℕ). eqb (z % 2) 1) (shr-shr n s b ∙ ap (λ (z : ℕ). n / 2 ^ z) (let e : s + b ≡ b + s = omega arith in e))

bit_low : (n j b : ℕ) → b < j → bit (n % 2 ^ j) b ≡ bit n b
bit_low n j b h =
    ap (λ (z : ℕ). bit (n % 2 ^ z) b) (let e : j ≡ (j - 1 - b + 1) + b = omega arith in e)
    ∙ ap (λ (z : ℕ). eqb (z % 2) 1) (field n (j - 1 - b + 1) b)
    ∙ ap (λ (z : ℕ). eqb z 1) (mod-mod-pow (n / 2 ^ b) (j - 1 - b) 1)

-- ---- eight outputs at once
xor5 : (m n o p q b : ℕ) → bit (bit_xor (bit_xor (bit_xor (bit_xor m n) o) p) q) b ≡ bit m b ⊻ bit n b ⊻ bit o b ⊻ bit p b ⊻ bit q b
xor5 m n o p q b = simp bit_of_xor

pub x_window : (w b : ℕ) → b < 8 → bit (bit_xor (bit_xor (bit_xor (bit_xor w (w / 2)) (w / 4)) (w / 8)) (w / 64) % 256) b ≡ x_in w b
x_window w b h =
    bit_low (bit_xor (bit_xor (bit_xor (bit_xor w (w / 2)) (w / 4)) (w / 8)) (w / 64)) 8 b h
    ∙ xor5 w (w / 2) (w / 4) (w / 8) (w / 64) b
    ∙ cc (bit_shifted w 1 b, bit_shifted w 2 b, bit_shifted w 3 b, bit_shifted w 6 b)

pub y_window : (w b : ℕ) → b < 8 → bit (bit_xor (bit_xor (bit_xor (bit_xor w (w / 4)) (w / 8)) (w / 32)) (w / 64) % 256) b ≡ y_in w b
y_window w b h =
    bit_low (bit_xor (bit_xor (bit_xor (bit_xor w (w / 4)) (w / 8)) (w / 32)) (w / 64)) 8 b h
    ∙ xor5 w (w / 4) (w / 8) (w / 32) (w / 64) b
    ∙ cc (bit_shifted w 2 b, bit_shifted w 3 b, bit_shifted w 5 b, bit_shifted w 6 b)

-- ---- a window carried from byte to byte
-- the lowest six bits are those before place 8 i
abbrev pub Carried : Bytes → ℕ → ℕ → Type 0
Carried v i w = (d : ℕ) → d < 6 → bit w d ≡ earlier (bits v) (8 * i) (suc d)

abbrev pub next : ℕ → ℕ → ℕ
next w byte = w % 64 * 256 + byte

next_low : (w byte b : ℕ) → byte < 256 → b < 8 → bit (next w byte) b ≡ bit byte b
next_low w byte b h l =
    sym (bit_low (next w byte) 8 b l)
    ∙ ap (λ (z : ℕ). bit z b) (let e : (w % 64 * 256 + byte) % 256 ≡ byte = omega arith in e)

next_high : (w byte b : ℕ) → byte < 256 → b < 6 → bit (next w byte) (b + 8) ≡ bit w b
next_high w byte b h l =
    sym (bit_shifted (next w byte) 8 b)
    ∙ ap (λ (z : ℕ). bit z b) (let e : (w % 64 * 256 + byte) / 256 ≡ w % 64 = omega arith in e)
    ∙ bit_low w 6 b l

pub carried_start : (v : Bytes) → Carried v 0 0
carried_start v d l = ap (λ (z : ℕ). eqb (z % 2) 1) (zero-div (2 ^ d)) ∙ sym (earlier_none (bits v) d)

-- bit b of the byte at i
low_bit : (v : Bytes) (i w b : ℕ) → v i < 256 → b < 8 → bit (next w (v i)) b ≡ bits v (8 * i + (7 - b))
low_bit v i w b h l =
    next_low w (v i) b h l
    ∙ ap (bit (v i)) (let e : b ≡ 7 - (7 - b) = omega arith in e)
    ∙ sym (bit_in_byte v i (7 - b) (omega arith))

pub carried_more : (v : Bytes) (i w : ℕ) → v i < 256 → Carried v (i + 1) (next w (v i))
carried_more v i w h d l =
    low_bit v i w d h (omega arith)
    ∙ sym (earlier_is (bits v) (8 * i + (7 - d)) (suc d))
    ∙ ap (λ (k : ℕ). earlier (bits v) k (suc d)) (let e : 8 * i + (7 - d) + suc d ≡ 8 * (i + 1) = omega arith in e)

-- the bit d before place t of the byte at i
window_bit : (v : Bytes) (i w t d : ℕ) → v i < 256 → Carried v i w → t < 8 → d ≤ 6 → bit (next w (v i)) (7 - t + d) ≡ earlier (bits v) (8 * i + t) d
window_bit v i w t d h c l m = elim (dec_le d t) [
  | yes n ↦
      low_bit v i w (7 - t + d) h (omega arith)
      ∙ sym (earlier_is (bits v) (8 * i + (7 - (7 - t + d))) d)
      ∙ ap (λ (k : ℕ). earlier (bits v) k d) (let e : 8 * i + (7 - (7 - t + d)) + d ≡ 8 * i + t = omega arith in e)
  | no n ↦
      let o : t < d = omega arith in
      ap (bit (next w (v i))) (let e : 7 - t + d ≡ d - t - 1 + 8 = omega arith in e)
      ∙ next_high w (v i) (d - t - 1) h (omega arith)
      ∙ c (d - t - 1) (omega arith)
      ∙ sym (earlier_on (bits v) (8 * i) (suc (d - t - 1)) t)
      ∙ ap (earlier (bits v) (8 * i + t)) (let e : suc (d - t - 1) + t ≡ d = omega arith in e)
]

window_now : (v : Bytes) (i w t : ℕ) → v i < 256 → t < 8 → bit (next w (v i)) (7 - t) ≡ bits v (8 * i + t)
window_now v i w t h l = low_bit v i w (7 - t) h (omega arith) ∙ ap (λ (n : ℕ). bits v (8 * i + n)) (let e : 7 - (7 - t) ≡ t = omega arith in e)

x_carried : (v : Bytes) (i w t : ℕ) → v i < 256 → Carried v i w → t < 8 → x_in (next w (v i)) (7 - t) ≡ x (bits v) (8 * i + t)
x_carried v i w t h c l =
    let at = λ (d : ℕ) (m : d ≤ 6). window_bit v i w t d h c l m in
    cc (window_now v i w t h l, at 1 (omega arith), at 2 (omega arith), at 3 (omega arith), at 6 (omega arith))

y_carried : (v : Bytes) (i w t : ℕ) → v i < 256 → Carried v i w → t < 8 → y_in (next w (v i)) (7 - t) ≡ y (bits v) (8 * i + t)
y_carried v i w t h c l =
    let at = λ (d : ℕ) (m : d ≤ 6). window_bit v i w t d h c l m in
    cc (window_now v i w t h l, at 2 (omega arith), at 3 (omega arith), at 5 (omega arith), at 6 (omega arith))

-- ---- one byte of outputs more
-- the bits of the first n bytes are those of f
abbrev pub Holds : List ℕ → Bits → ℕ → Type 0
Holds xs f n = (k : ℕ) → k < 8 * n → bits (word xs) k ≡ f k

holds_more : (xs : List ℕ) (f : Bits) (i byte : ℕ) → i < length xs → Holds xs f i → ((t : ℕ) → t < 8 → bit byte (7 - t) ≡ f (8 * i + t)) → Holds (set xs i byte) f (i + 1)
holds_more xs f i byte long h g k l = elim (dec_lt k (8 * i)) [
  | yes m ↦
      let ne : k / 8 ≢ i = omega arith in
      ap (λ (z : ℕ). bit z (7 - k % 8)) (get_or-set_other xs i (k / 8) byte 0 ne) ∙ h k m
  | no m ↦
      let at : k / 8 ≡ i = omega arith in
      ap (λ (j : ℕ). bit (get_or (set xs i byte) j 0) (7 - k % 8)) at
      ∙ ap (λ (z : ℕ). bit z (7 - k % 8)) (get_or-set_same xs i byte 0 long)
      ∙ g (k % 8) (omega arith)
      ∙ ap f (let e : 8 * i + k % 8 ≡ k = omega arith in e)
]

pub x_more : (v : Bytes) (xs : List ℕ) (i w byte : ℕ) → v i < 256 → Carried v i w → i < length xs → ((b : ℕ) → b < 8 → bit byte b ≡ x_in (next w (v i)) b) → Holds xs (x (bits v)) i → Holds (set xs i byte) (x (bits v)) (i + 1)
x_more v xs i w byte small c long o h =
    holds_more xs (x (bits v)) i byte long h (λ t l. o (7 - t) (omega arith) ∙ x_carried v i w t small c l)

pub y_more : (v : Bytes) (ys : List ℕ) (i w byte : ℕ) → v i < 256 → Carried v i w → i < length ys → ((b : ℕ) → b < 8 → bit byte b ≡ y_in (next w (v i)) b) → Holds ys (y (bits v)) i → Holds (set ys i byte) (y (bits v)) (i + 1)
y_more v ys i w byte small c long o h =
    holds_more ys (y (bits v)) i byte long h (λ t l. o (7 - t) (omega arith) ∙ y_carried v i w t small c l)
