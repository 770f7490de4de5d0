-- Coding is linear, and whole periods of bits decide whole periods of coded bits.
-- Assumes nothing.
use mathlib.Core.Path.{◌≡◌, refl, ap, ap₂, ◌∙◌}
use mathlib.Core.Bool.{Bool, true, false}
use Prim.Native.Nat.{ℕ, zero, suc, ◌+◌, ◌*◌, ◌/◌, ◌%◌, ◌<◌, ◌≤◌}
use native.Mathlib.Omega.{arith}
use lib.ListN.{get_or}
use Rattle.words.specs.Words.{Bits, ◌⊻◌, plus, digit, ones}
use Rattle.inner_code.specs.Inner.{earlier, x, y, pattern, coded, Rated, half, two_thirds, three_quarters, five_sixths}

-- ---- linearity
swap : (a b c d : Bool) → (a ⊻ b) ⊻ (c ⊻ d) ≡ (a ⊻ c) ⊻ (b ⊻ d)
swap false false c d = refl
swap false true false d = refl
swap false true true false = refl
swap false true true true = refl
swap true false false d = refl
swap true false true false = refl
swap true false true true = refl
swap true true false false = refl
swap true true false true = refl
swap true true true false = refl
swap true true true true = refl

swap5 : (a b c d e a' b' c' d' e' : Bool) → (a ⊻ a') ⊻ (b ⊻ b') ⊻ (c ⊻ c') ⊻ (d ⊻ d') ⊻ (e ⊻ e') ≡ (a ⊻ b ⊻ c ⊻ d ⊻ e) ⊻ (a' ⊻ b' ⊻ c' ⊻ d' ⊻ e')
swap5 a b c d e a' b' c' d' e' =
    ap (λ (z : Bool). z ⊻ (c ⊻ c') ⊻ (d ⊻ d') ⊻ (e ⊻ e')) (swap a a' b b')
    ∙ (ap (λ (z : Bool). z ⊻ (d ⊻ d') ⊻ (e ⊻ e')) (swap (a ⊻ b) (a' ⊻ b') c c')
    ∙ (ap (λ (z : Bool). z ⊻ (e ⊻ e')) (swap (a ⊻ b ⊻ c) (a' ⊻ b' ⊻ c') d d')
    ∙ swap (a ⊻ b ⊻ c ⊻ d) (a' ⊻ b' ⊻ c' ⊻ d') e e'))

pub earlier_plus : (u v : Bits) (k d : ℕ) → earlier (plus u v) k d ≡ earlier u k d ⊻ earlier v k d
unfolding earlier
earlier_plus u v k zero = refl
earlier_plus u v zero (suc d) = refl
earlier_plus u v (suc k) (suc d) = earlier_plus u v k d

x_plus : (u v : Bits) (k : ℕ) → x (plus u v) k ≡ x u k ⊻ x v k
x_plus u v k = simp earlier_plus (swap5 (u k) (earlier u k 1) (earlier u k 2) (earlier u k 3) (earlier u k 6) (v k) (earlier v k 1) (earlier v k 2) (earlier v k 3) (earlier v k 6))

y_plus : (u v : Bits) (k : ℕ) → y (plus u v) k ≡ y u k ⊻ y v k
y_plus u v k = simp earlier_plus (swap5 (u k) (earlier u k 2) (earlier u k 3) (earlier u k 5) (earlier u k 6) (v k) (earlier v k 2) (earlier v k 3) (earlier v k 5) (earlier v k 6))

pattern_plus : (u v : Bits) (k i : ℕ) → get_or (pattern (plus u v) k) i false ≡ get_or (pattern u k) i false ⊻ get_or (pattern v k) i false
pattern_plus u v k zero = x_plus u v k
pattern_plus u v k (suc zero) = y_plus u v k
pattern_plus u v k (suc (suc zero)) = y_plus u v (k + 1)
pattern_plus u v k (suc (suc (suc zero))) = x_plus u v (k + 2)
pattern_plus u v k (suc (suc (suc (suc zero)))) = y_plus u v (k + 3)
pattern_plus u v k (suc (suc (suc (suc (suc zero))))) = x_plus u v (k + 4)
pattern_plus u v k (suc (suc (suc (suc (suc (suc i)))))) = refl

pub coded_plus : (p : ℕ) (u v : Bits) (j : ℕ) → coded p (plus u v) j ≡ coded p u j ⊻ coded p v j
unfolding coded
coded_plus p u v j = pattern_plus u v (p * (j / (p + 1))) (j % (p + 1))

pub ones_same : (n : ℕ) (a b : Bits) → ((k : ℕ) → k < n → a k ≡ b k) → ones n a ≡ ones n b
unfolding ones
ones_same zero a b h = refl
ones_same (suc n) a b h = ap₂ ◌+◌ (ones_same n a b (λ k l. h k (omega arith))) (ap digit (h n (omega arith)))

-- the ones of a coded sum count the places where the coded words differ
pub ones_coded : (p n : ℕ) (u v : Bits) → ones n (coded p (plus u v)) ≡ ones n (plus (coded p u) (coded p v))
ones_coded p n u v = ones_same n (coded p (plus u v)) (plus (coded p u) (coded p v)) (λ k l. coded_plus p u v k)

-- ---- earlier bits
-- the bit d before place k, looked at from a places later
pub earlier_on : (u : Bits) (k d a : ℕ) → earlier u (k + a) (d + a) ≡ earlier u k d
unfolding earlier
earlier_on u k d zero = ap₂ (earlier u) (let e : k + 0 ≡ k = omega arith in e) (let e : d + 0 ≡ d = omega arith in e)
earlier_on u k d (suc a) = ap₂ (earlier u) (let e : k + suc a ≡ suc (k + a) = omega arith in e) (let e : d + suc a ≡ suc (d + a) = omega arith in e) ∙ earlier_on u k d a

-- there is such a bit
pub earlier_is : (u : Bits) (k d : ℕ) → earlier u (k + d) d ≡ u k
unfolding earlier
earlier_is u k d = ap (earlier u (k + d)) (let e : d ≡ 0 + d = omega arith in e) ∙ earlier_on u k 0 d

-- there is none
pub earlier_none : (u : Bits) (d : ℕ) → earlier u 0 (suc d) ≡ false
unfolding earlier
earlier_none u d = refl

-- ---- whole periods
earlier_same : (u v : Bits) (n k d : ℕ) → ((i : ℕ) → i < n → u i ≡ v i) → k < n → earlier u k d ≡ earlier v k d
unfolding earlier
earlier_same u v n k zero h l = h k l
earlier_same u v n zero (suc d) h l = refl
earlier_same u v n (suc k) (suc d) h l = earlier_same u v n k d h (omega arith)

x_same : (u v : Bits) (n k : ℕ) → ((i : ℕ) → i < n → u i ≡ v i) → k < n → x u k ≡ x v k
x_same u v n k h l =
    cc (h k l, earlier_same u v n k 1 h l, earlier_same u v n k 2 h l, earlier_same u v n k 3 h l, earlier_same u v n k 6 h l)

y_same : (u v : Bits) (n k : ℕ) → ((i : ℕ) → i < n → u i ≡ v i) → k < n → y u k ≡ y v k
y_same u v n k h l =
    cc (h k l, earlier_same u v n k 2 h l, earlier_same u v n k 3 h l, earlier_same u v n k 5 h l, earlier_same u v n k 6 h l)

-- the first coded bits of a period want only its own bits, and earlier ones
pattern_same : (u v : Bits) (n k p i : ℕ) → 0 < p → ((t : ℕ) → t < n → u t ≡ v t) → k + p ≤ n → i ≤ p → get_or (pattern u k) i false ≡ get_or (pattern v k) i false
pattern_same u v n k p zero r h l m = x_same u v n k h (omega arith)
pattern_same u v n k p (suc zero) r h l m = y_same u v n k h (omega arith)
pattern_same u v n k p (suc (suc zero)) r h l m = y_same u v n (k + 1) h (omega arith)
pattern_same u v n k p (suc (suc (suc zero))) r h l m = x_same u v n (k + 2) h (omega arith)
pattern_same u v n k p (suc (suc (suc (suc zero)))) r h l m = y_same u v n (k + 3) h (omega arith)
pattern_same u v n k p (suc (suc (suc (suc (suc zero))))) r h l m = x_same u v n (k + 4) h (omega arith)
pattern_same u v n k p (suc (suc (suc (suc (suc (suc i)))))) r h l m = refl

-- where coded bit j of q periods stands
pub record Located (p q j : ℕ) : Type 0 where
  pub some : 0 < p
  pub within : j / (p + 1) < q
  pub period : p * (j / (p + 1)) + p ≤ p * q
  pub place : j % (p + 1) ≤ p
  pub split : (p + 1) * (j / (p + 1)) + j % (p + 1) ≡ j

pub located : (p q j : ℕ) → Rated p → j < (p + 1) * q → Located p q j
located p q j half l = omega arith
located p q j two_thirds l = omega arith
located p q j three_quarters l = omega arith
located p q j five_sixths l = omega arith

pub coded_same : (p q : ℕ) (u v : Bits) → Rated p → ((k : ℕ) → k < p * q → u k ≡ v k) → (j : ℕ) → j < (p + 1) * q → coded p u j ≡ coded p v j
unfolding coded
coded_same p q u v r h j l =
    let s = located p q j r l in
    pattern_same u v (p * q) (p * (j / (p + 1))) p (j % (p + 1)) s.some h s.period s.place

record Split (p q i j : ℕ) : Type 0 where
  period : j / (p + 1) ≡ q
  place : j % (p + 1) ≡ i

split : (p q i j : ℕ) → Rated p → i ≤ p → j ≡ (p + 1) * q + i → Split p q i j
split p q i j half l e = omega arith
split p q i j two_thirds l e = omega arith
split p q i j three_quarters l e = omega arith
split p q i j five_sixths l e = omega arith

-- coded bit i of period q
pub coded_at : (p : ℕ) (u : Bits) (q i : ℕ) → Rated p → i ≤ p → coded p u ((p + 1) * q + i) ≡ get_or (pattern u (p * q)) i false
unfolding coded
coded_at p u q i r l =
    let s = split p q i ((p + 1) * q + i) r l refl in
    ap₂ (λ (a b : ℕ). get_or (pattern u (p * a)) b false) s.period s.place
