-- Bits to bytes and back.
-- Assumes nothing.
use mathlib.Core.Path.{◌≡◌, refl, sym, ◌∙◌, ap, ap₂}
use mathlib.Core.Bool.{Bool, true, false}
use mathlib.Core.List.{List, ◌∷◌}
use Prim.Native.Nat.{ℕ, zero, suc, ◌+◌, ◌-◌, ◌*◌, ◌/◌, ◌%◌, ◌^◌, ◌<◌}
use native.Mathlib.Omega.{arith}
use native.Mathlib.Nat.{div-one, div-div-eq-div-mul, mul_comm, pow-succ'}
use lib.Dec.{eqb}
use lib.Bits.{bit_xor, xor_mod, xor_shr, xor_block}
use lib.ListN.{length, get_or}
use Rattle.words.specs.Words.{Bits, Bytes, ◌⊻◌, plus, digit, bits, value, bytes, listed}

pub digit_lt : (b : Bool) → digit b < 2
digit_lt true = omega arith
digit_lt false = omega arith

pub digit_eqb : (b : Bool) → eqb (digit b) 1 ≡ b
digit_eqb true = refl
digit_eqb false = refl

pub digit_xor : (a b : Bool) → digit (a ⊻ b) ≡ bit_xor (digit a) (digit b)
digit_xor true true = refl
digit_xor true false = refl
digit_xor false true = refl
digit_xor false false = refl

pub eqb_digit : (n : ℕ) → n < 2 → digit (eqb n 1) ≡ n
eqb_digit zero h = refl
eqb_digit (suc zero) h = refl
eqb_digit (suc (suc n)) h = absurd (omega arith)

-- ---- numbers of bits
pub value_suc : (n : ℕ) (a : Bits) → value (suc n) a ≡ 2 * value n a + digit (a n)
unfolding value
value_suc n a = refl

pub value_below : (n : ℕ) (a : Bits) → value n a < 2 ^ n
unfolding value
value_below zero a = omega arith
value_below (suc n) a = let h = value_below n a in let l = digit_lt (a n) in omega arith

pub value_same : (n : ℕ) (a b : Bits) → ((t : ℕ) → t < n → a t ≡ b t) → value n a ≡ value n b
unfolding value
value_same zero a b h = refl
value_same (suc n) a b h = ap₂ (λ (x y : ℕ). 2 * x + y) (value_same n a b (λ t l. h t (omega arith))) (ap digit (h n (omega arith)))

xor_double : (a b x y : ℕ) → x < 2 → y < 2 → bit_xor (2 * a + x) (2 * b + y) ≡ 2 * bit_xor a b + bit_xor x y
xor_double a b x y p q =
    ap₂ (λ (u v : ℕ). bit_xor (u + x) (v + y)) (mul_comm 2 a) (mul_comm 2 b) ∙ xor_block 1 a b x y p q ∙ ap (λ (u : ℕ). u + bit_xor x y) (mul_comm (bit_xor a b) 2)

pub value_xor : (n : ℕ) (a b : Bits) → value n (plus a b) ≡ bit_xor (value n a) (value n b)
unfolding value
value_xor zero a b = refl
value_xor (suc n) a b =
    ap₂ (λ (x y : ℕ). 2 * x + y) (value_xor n a b) (digit_xor (a n) (b n))
    ∙ sym (xor_double (value n a) (value n b) (digit (a n)) (digit (b n)) (digit_lt (a n)) (digit_lt (b n)))

halved : (x t : ℕ) → x / 2 ^ suc t ≡ x / 2 / 2 ^ t
halved x t = ap (λ (y : ℕ). x / y) (pow-succ' 2 t) ∙ sym (div-div-eq-div-mul x 2 (2 ^ t))

-- bit t from the lowest of a number of n bits
pub value_bit : (n t : ℕ) (a : Bits) → t < n → value n a / 2 ^ t % 2 ≡ digit (a (n - 1 - t))
unfolding value
value_bit zero t a h = absurd (omega arith)
value_bit (suc n) zero a h =
    ap (λ (x : ℕ). x % 2) (div-one (2 * value n a + digit (a n)))
    ∙ (let l = digit_lt (a n) in let e : (2 * value n a + digit (a n)) % 2 ≡ digit (a n) = omega arith in e)
    ∙ ap (λ (m : ℕ). digit (a m)) (let e : n ≡ suc n - 1 - 0 = omega arith in e)
value_bit (suc n) (suc t) a h =
    ap (λ (x : ℕ). x % 2) (halved (2 * value n a + digit (a n)) t ∙ ap (λ (x : ℕ). x / 2 ^ t) (let l = digit_lt (a n) in let e : (2 * value n a + digit (a n)) / 2 ≡ value n a = omega arith in e))
    ∙ value_bit n t a (omega arith)
    ∙ ap (λ (m : ℕ). digit (a m)) (let e : n - 1 - t ≡ suc n - 1 - suc t = omega arith in e)

-- the number of the bits of a number
pub value_of : (n x : ℕ) → x < 2 ^ n → value n (λ t. eqb (x / 2 ^ (n - 1 - t) % 2) 1) ≡ x
unfolding value
value_of zero x h = omega arith
value_of (suc n) x h =
    ap₂ (λ (u v : ℕ). 2 * u + v)
    (value_same n (λ t. eqb (x / 2 ^ (suc n - 1 - t) % 2) 1) (λ t. eqb (x / 2 / 2 ^ (n - 1 - t) % 2) 1) (λ t l. ap (λ (y : ℕ). eqb (y % 2) 1) (lower t l))
    ∙ value_of n (x / 2) (omega arith))
    (ap (λ (m : ℕ). digit (eqb (x / 2 ^ m % 2) 1)) (let e : suc n - 1 - n ≡ 0 = omega arith in e)
    ∙ ap (λ (y : ℕ). digit (eqb (y % 2) 1)) (div-one x) ∙ eqb_digit (x % 2) (omega arith))
    ∙ (let e : 2 * (x / 2) + x % 2 ≡ x = omega arith in e)
  where
    lower : (t : ℕ) → t < n → x / 2 ^ (suc n - 1 - t) ≡ x / 2 / 2 ^ (n - 1 - t)
    lower t l =
        ap (λ (m : ℕ). x / 2 ^ m) (let e : suc n - 1 - t ≡ suc (n - 1 - t) = omega arith in e)
        ∙ halved x (n - 1 - t)

-- ---- bytes
pub byte_lt : (u : Bits) (i : ℕ) → bytes u i < 256
byte_lt u i = value_below 8 (λ t. u (8 * i + t))

pub bits_bytes : (u : Bits) (k : ℕ) → bits (bytes u) k ≡ u k
bits_bytes u k =
    ap (λ (x : ℕ). eqb x 1) (value_bit 8 (7 - k % 8) (λ t. u (8 * (k / 8) + t)) (omega arith))
    ∙ digit_eqb (u (8 * (k / 8) + (8 - 1 - (7 - k % 8))))
    ∙ ap u (let e : 8 * (k / 8) + (8 - 1 - (7 - k % 8)) ≡ k = omega arith in e)

-- bit t of byte i
pub bit_in_byte : (w : Bytes) (i t : ℕ) → t < 8 → bits w (8 * i + t) ≡ eqb (w i / 2 ^ (7 - t) % 2) 1
bit_in_byte w i t h =
    ap₂ (λ (j n : ℕ). eqb (w j / 2 ^ (7 - n) % 2) 1)
    (let e : (8 * i + t) / 8 ≡ i = omega arith in e) (let e : (8 * i + t) % 8 ≡ t = omega arith in e)

pub bytes_bits : (w : Bytes) (i : ℕ) → w i < 256 → bytes (bits w) i ≡ w i
bytes_bits w i h = value_same 8 (λ t. bits w (8 * i + t)) (λ t. eqb (w i / 2 ^ (8 - 1 - t) % 2) 1) (λ t l. bit_in_byte w i t l) ∙ value_of 8 (w i) h

-- the bytes below n decide the bits below 8 n
pub bits_same : (v w : Bytes) (n : ℕ) → ((i : ℕ) → i < n → v i ≡ w i) → (k : ℕ) → k < 8 * n → bits v k ≡ bits w k
bits_same v w n h k l = ap (λ (x : ℕ). eqb (x / 2 ^ (7 - k % 8) % 2) 1) (h (k / 8) (omega arith))

-- a bit of an exclusive or is the exclusive or of the bits
pub xor_bit : (x y n : ℕ) → bit_xor x y / 2 ^ n % 2 ≡ bit_xor (x / 2 ^ n % 2) (y / 2 ^ n % 2)
xor_bit x y n = ap (λ (z : ℕ). z % 2) (xor_shr x y n) ∙ xor_mod (x / 2 ^ n) (y / 2 ^ n) 1

-- ---- lists
pub length_listed : (n : ℕ) (w : Bytes) → length (listed n w) ≡ n
length_listed zero w = refl
length_listed (suc n) w = ap suc (length_listed n (λ k. w (suc k)))

pub get_or_listed : (n : ℕ) (w : Bytes) (k : ℕ) → k < n → get_or (listed n w) k 0 ≡ w k
get_or_listed zero w k h = absurd (omega arith)
get_or_listed (suc n) w zero h = refl
get_or_listed (suc n) w (suc k) h = get_or_listed n (λ k. w (suc k)) k (omega arith)

pub listed_same : (n : ℕ) (v w : Bytes) → ((k : ℕ) → k < n → v k ≡ w k) → listed n v ≡ listed n w
listed_same zero v w h = refl
listed_same (suc n) v w h = ap₂ (λ (x : ℕ) (xs : List ℕ). x ∷ xs) (h 0 (omega arith)) (listed_same n (λ k. v (suc k)) (λ k. w (suc k)) (λ k l. h (suc k) (omega arith)))
