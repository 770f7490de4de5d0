-- Eight new bits at once: the register's fifteen bits give them all, since what is pushed comes out fourteen bits later.
-- Assumes nothing.
use Rattle.std.proofs.Common.{◌≡◌, ℕ, zero, suc, ◌+◌, ◌-◌, ◌*◌, ◌/◌, ◌%◌, ◌^◌, ◌<◌, refl, sym, ◌∙◌, ap, ap₂, arith}
use native.Mathlib.Nat.{add-zero, div-one, pow-succ', div-div-eq-div-mul, mul_comm}
use lib.Bits.{bit_xor, xor_comm}
use lib.Pow.{pow-add, mod-pow-add, field, mod-mod-pow}
use Rattle.std.specs.Int.{reverse_bits_onto}
use Rattle.words.specs.Words.{Bits, digit, value}
use Rattle.words.proofs.Bridge.{xor_bit}
use Rattle.scrambler.specs.Scrambler.{fresh, pushed, after}
use Rattle.scrambler.specs.Eight.{key}
use Rattle.scrambler.proofs.Keys.{fresh_is}

halved : (n t : ℕ) → n / 2 ^ suc t ≡ n / 2 / 2 ^ t
halved n t = ap (λ (m : ℕ). n / m) (pow-succ' 2 t) ∙ sym (div-div-eq-div-mul n 2 (2 ^ t))

halved_last : (n t : ℕ) → n / 2 ^ suc t ≡ n / 2 ^ t / 2
halved_last n t = ap (λ (m : ℕ). n / m) (pow-succ' 2 t ∙ mul_comm 2 (2 ^ t)) ∙ sym (div-div-eq-div-mul n (2 ^ t) 2)

-- the number of the bits of n, the lowest first
reversed : (j k n : ℕ) (f : Bits) → ((t : ℕ) → t < j → digit (f (k + t)) ≡ n / 2 ^ t % 2) → reverse_bits_onto j n (value k f) ≡ value (k + j) f
unfolding reverse_bits_onto value
reversed zero k n f h = ap (λ (m : ℕ). value m f) (let e : k ≡ k + 0 = omega arith in e)
reversed (suc j) k n f h =
    ap (reverse_bits_onto j (n / 2)) (let d = ap (λ (m : ℕ). digit (f m)) (sym (add-zero k)) ∙ h 0 (omega arith) ∙ ap (λ (m : ℕ). m % 2) (div-one n) in
    let a : value k f * 2 + n % 2 ≡ 2 * value k f + digit (f k) = omega arith in a)
    ∙ reversed j (suc k) (n / 2) f (λ t l. ap (λ (m : ℕ). digit (f m)) (let e : suc k + t ≡ k + suc t = omega arith in e) ∙ h (suc t) (omega arith) ∙ ap (λ (m : ℕ). m % 2) (halved n t)) ∙ ap (λ (m : ℕ). value m f) (let e : suc k + j ≡ k + suc j = omega arith in e)

step : (a w h l b p m v f : ℕ) → a ≡ 4 * (2 * h * l) + w → f ≡ b → h * (2 * p) ≡ 8192 → m ≡ b * p + l → v ≡ w / 2 → f * 16384 + a / 2 ≡ 4 * (h * m) + v
step a w h l b p m v f ea eb eh em ev =
    let s : h * p ≡ 4096 = omega arith in
    let u = ap (λ (z : ℕ). z * b) s in
    let m' = ap (λ (z : ℕ). h * z) em in
    omega arith

module _ (r : ℕ) where
  -- the register plus itself moved by one stage
  abbrev sum : ℕ
  sum = bit_xor r (r / 2)

  new_is : (t h : ℕ) → after t r ≡ 4 * (h * (sum % 2 ^ t)) + r / 2 ^ t → digit (fresh (after t r)) ≡ sum / 2 ^ t % 2
  new_is t h e =
      let halves : r / 2 / 2 ^ t ≡ r / 2 ^ t / 2 = sym (halved r t) ∙ halved_last r t in
      fresh_is (after t r) ∙ xor_comm (after t r / 2 % 2) (after t r % 2)
      ∙ ap₂ bit_xor (let a : after t r % 2 ≡ r / 2 ^ t % 2 = omega arith in a) (let b : after t r / 2 % 2 ≡ r / 2 / 2 ^ t % 2 = omega arith in b)
      ∙ sym (xor_bit r (r / 2) t)

  -- t new bits have come, the first lowest, and the others of the old register are left
  run : (t h : ℕ) → h * 2 ^ t ≡ 8192 → after t r ≡ 4 * (h * (sum % 2 ^ t)) + r / 2 ^ t
  unfolding after pushed
  run zero h e = let z : sum % 1 ≡ 0 = omega arith in omega (arith, ap (λ (m : ℕ). h * m) z, div-one r)
  run (suc t) h e =
      let before = run t (2 * h) (let d = ap (λ (m : ℕ). h * m) (pow-succ' 2 t) in omega arith) in
      let b = new_is t (2 * h) before in
      let low : sum % 2 ^ suc t ≡ sum / 2 ^ t % 2 * 2 ^ t + sum % 2 ^ t = ap (λ (m : ℕ). sum % 2 ^ m) (let s : suc t ≡ 1 + t = omega arith in s) ∙ mod-pow-add sum 1 t in
      step (after t r) (r / 2 ^ t) h (sum % 2 ^ t) (sum / 2 ^ t % 2) (2 ^ t) (sum % 2 ^ suc t) (r / 2 ^ suc t) (digit (fresh (after t r))) before b (ap (λ (m : ℕ). h * m) (sym (pow-succ' 2 t)) ∙ e) low (halved_last r t)

  pub after_8 : sum % 256 * 128 + r / 256 ≡ after 8 r
  after_8 = let e = run 8 32 refl in omega arith

  pub key_8 : reverse_bits_onto 8 (sum % 256) 0 ≡ key 8 r
  unfolding key value
  key_8 = reversed 8 0 (sum % 256) (λ t. fresh (after t r)) bits
    where
      bits : (t : ℕ) → t < 8 → digit (fresh (after (0 + t) r)) ≡ sum % 256 / 2 ^ t % 2
      bits t l =
          let e : 2 ^ (13 - t) * 2 ^ t ≡ 8192 = sym (pow-add 2 (13 - t) t) ∙ ap (λ (m : ℕ). 2 ^ m) (let a : 13 - t + t ≡ 13 = omega arith in a) in
          ap (λ (m : ℕ). digit (fresh (after m r))) (let a : 0 + t ≡ t = omega arith in a) ∙ new_is t (2 ^ (13 - t)) (run t (2 ^ (13 - t)) e)
          ∙ sym (ap (λ (m : ℕ). sum % 2 ^ m / 2 ^ t % 2) (let a : 8 ≡ (7 - t + 1) + t = omega arith in a)
          ∙ ap (λ (m : ℕ). m % 2) (field sum (7 - t + 1) t) ∙ mod-mod-pow (sum / 2 ^ t) (7 - t) 1)
