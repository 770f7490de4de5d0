-- One word alone is the nearest, and what was heard without a wrong bit gives the word sent.
-- Assumes nothing.
use Rattle.std.proofs.Common.{◌≡◌, ℕ, zero, suc, ◌+◌, ◌-◌, ◌*◌, ◌/◌, ◌%◌, ◌^◌, ◌<◌, ◌≤◌, Bool, true, false, eqb, sym, refl, ap, ◌∙◌, ⊎_elim, eq-or-lt_of_le, arith}
use native.Mathlib.Nat.{zero-div}
use Rattle.std.proofs.lemmas.Bool.{cases_lt}
use Rattle.words.specs.Words.{Bits, Bytes, ◌⊻◌, plus, digit, ones, bits, bytes, value}
use Rattle.words.proofs.Bridge.{digit_eqb, value_same}
use Rattle.inner_code.specs.Inner.{earlier, x, y, coded, Rated}
use Rattle.paths.specs.Ties.{BitsFirst, same_bits, lower_bit}
use Rattle.inner_words.specs.InnerWords.{Tailed, wrong, Nearest}
use Rattle.inner_words.specs.Receiving.{sent}
use Rattle.inner_words.proofs.Stages.{output, sent_first, sent_all, sent_more}

-- ---- uniqueness
both_first : (u v : Bits) (n : ℕ) → BitsFirst u v n → BitsFirst v u n → (k : ℕ) → k < n → u k ≡ v k
both_first u v n (same_bits h) g k l = h k l
both_first u v n (lower_bit i a b c d) (same_bits h) k l = sym (h k l)
both_first u v n (lower_bit i a b c d) (lower_bit j a' b' c' d') k l =
    ⊎_elim
    (λ m. cc (d' i m a))
    (λ m. ⊎_elim (λ e. cc (ap u e)) (λ e. cc (d j e a')) (eq-or-lt_of_le m))
    (cases_lt j i)

pub nearest_unique : (p q : ℕ) (heard u v : Bits) → Nearest p q heard u → Nearest p q heard v → (k : ℕ) → k < p * q → u k ≡ v k
nearest_unique p q heard u v a b =
    let l = a.least v b.tailed in
    let m = b.least u a.tailed in
    let e : wrong p q v heard ≡ wrong p q u heard = omega arith in
    both_first u v (p * q) (a.first v b.tailed e) (b.first u a.tailed (sym e))

-- ---- coded bits decide the bits
cancel : (a b c : Bool) → a ⊻ c ≡ b ⊻ c → a ≡ b
cancel true true c e = refl
cancel false false c e = refl
cancel true false true e = sym e
cancel true false false e = e
cancel false true true e = sym e
cancel false true false e = e

-- of equal outputs with equal earlier terms
cancel_one : (a b c d : Bool) → c ≡ d → a ⊻ c ≡ b ⊻ d → a ≡ b
cancel_one a b c d e h = cancel a b c (h ∙ ap (λ (z : Bool). b ⊻ z) (sym e))

before_same : (u v : Bits) (k d : ℕ) → ((j : ℕ) → j < k → u j ≡ v j) → 0 < d → earlier u k d ≡ earlier v k d
unfolding earlier
before_same u v k zero h l = absurd (omega arith)
before_same u v zero (suc d) h l = refl
before_same u v (suc k) (suc zero) h l = h k (omega arith)
before_same u v (suc k) (suc (suc d)) h l = before_same u v k (suc d) (λ j m. h j (omega arith)) (omega arith)

module _ (u v : Bits) (k : ℕ) (h : (j : ℕ) → j < k → u j ≡ v j) where
  same : (d : ℕ) → 0 < d → earlier u k d ≡ earlier v k d
  same d = before_same u v k d h

  by_x : x u k ≡ x v k → u k ≡ v k
  by_x e =
      cancel_one (u k) (v k) (earlier u k 1) (earlier v k 1) (same 1 (omega arith))
      (cancel_one _ _ (earlier u k 2) (earlier v k 2) (same 2 (omega arith))
      (cancel_one _ _ (earlier u k 3) (earlier v k 3) (same 3 (omega arith))
      (cancel_one _ _ (earlier u k 6) (earlier v k 6) (same 6 (omega arith)) e)))

  by_y : y u k ≡ y v k → u k ≡ v k
  by_y e =
      cancel_one (u k) (v k) (earlier u k 2) (earlier v k 2) (same 2 (omega arith))
      (cancel_one _ _ (earlier u k 3) (earlier v k 3) (same 3 (omega arith))
      (cancel_one _ _ (earlier u k 5) (earlier v k 5) (same 5 (omega arith))
      (cancel_one _ _ (earlier u k 6) (earlier v k 6) (same 6 (omega arith)) e)))

  by_output : (i : ℕ) → output i u k ≡ output i v k → u k ≡ v k
  by_output zero e = by_x e
  by_output (suc zero) e = by_y e
  by_output (suc (suc zero)) e = by_x e
  by_output (suc (suc (suc zero))) e = by_y e
  by_output (suc (suc (suc (suc i)))) e = by_x e

below : (p q : ℕ) (u v : Bits) → Rated p → ((j : ℕ) → j < (p + 1) * q → coded p u j ≡ coded p v j) → (n : ℕ) → n ≤ p * q → (k : ℕ) → k < n → u k ≡ v k
below p q u v r h zero le k l = absurd (omega arith)
below p q u v r h (suc n) le k l =
    let earlier_ones = below p q u v r h n (omega arith) in
    ⊎_elim
    (λ e. ap u e ∙ by_output u v n earlier_ones (n % p) (sym (sent_first p n u r) ∙ h (sent p n) (omega (arith, sent_more p n (p * q) r (omega arith), sent_all p q r)) ∙ sent_first p n v r) ∙ ap v (sym e))
    (λ m. earlier_ones k m)
    (eq-or-lt_of_le (let m : k ≤ n = omega arith in m))

-- each stage sends an output that contains its bit
pub coded_injective : (p q : ℕ) (u v : Bits) → Rated p → ((j : ℕ) → j < (p + 1) * q → coded p u j ≡ coded p v j) → (k : ℕ) → k < p * q → u k ≡ v k
coded_injective p q u v r h k l = below p q u v r h (p * q) (omega arith) k l

-- ---- no wrong bit
ones_none : (n : ℕ) (a : Bits) → ((k : ℕ) → k < n → a k ≡ false) → ones n a ≡ 0
unfolding ones
ones_none zero a h = refl
ones_none (suc n) a h = let i = ones_none n a (λ k l. h k (omega arith)) in let d = ap digit (h n (omega arith)) in omega arith

none_of : (b : Bool) → digit b ≡ 0 → b ≡ false
none_of b e = sym (digit_eqb b) ∙ ap (λ (z : ℕ). eqb z 1) e

none_ones : (n : ℕ) (a : Bits) → ones n a ≡ 0 → (k : ℕ) → k < n → a k ≡ false
unfolding ones
none_ones zero a e k l = absurd (omega arith)
none_ones (suc n) a e k l = ⊎_elim (λ i. ap a i ∙ none_of (a n) (omega arith)) (λ m. none_ones n a (omega arith) k m) (eq-or-lt_of_le (let m : k ≤ n = omega arith in m))

sum_none : (a b : Bool) → a ≡ b → a ⊻ b ≡ false
sum_none true b e = ap (λ (z : Bool). true ⊻ z) (sym e)
sum_none false b e = sym e

none_sum : (a b : Bool) → a ⊻ b ≡ false → a ≡ b
none_sum true true e = refl
none_sum true false e = e
none_sum false b e = sym e

-- what was heard is the word of u
pub heard_clean : (p q : ℕ) (heard u : Bits) → ((j : ℕ) → j < (p + 1) * q → heard j ≡ coded p u j) → wrong p q u heard ≡ 0
heard_clean p q heard u h = ones_none ((p + 1) * q) (plus (coded p u) heard) (λ j l. sum_none (coded p u j) (heard j) (sym (h j l)))

pub nearest_clean : (p q : ℕ) (heard u w : Bits) → Rated p → Tailed (p * q) u → ((j : ℕ) → j < (p + 1) * q → heard j ≡ coded p u j) → Nearest p q heard w → (k : ℕ) → k < p * q → w k ≡ u k
nearest_clean p q heard u w r t h near =
    let none = heard_clean p q heard u h in
    let l = near.least u t in
    let e : wrong p q w heard ≡ 0 = omega arith in
    coded_injective p q w u r (λ j m. none_sum (coded p w j) (heard j) (none_ones ((p + 1) * q) (plus (coded p w) heard) e j m) ∙ h j m)

-- ---- the tail is the last byte
pub tailed_bits : (w : Bytes) (m : ℕ) → w m ≡ 0 → Tailed (8 * (m + 1)) (bits w)
tailed_bits w m e k l h =
    ap (λ (i : ℕ). eqb (w i / 2 ^ (7 - k % 8) % 2) 1) (let d : k / 8 ≡ m = omega arith in d)
    ∙ ap (λ (z : ℕ). eqb (z / 2 ^ (7 - k % 8) % 2) 1) e
    ∙ ap (λ (z : ℕ). eqb (z % 2) 1) (zero-div (2 ^ (7 - k % 8)))

pub tailed_byte : (u : Bits) (m : ℕ) → Tailed (8 * (m + 1)) u → bytes u m ≡ 0
unfolding value
tailed_byte u m t = value_same 8 (λ i. u (8 * m + i)) (λ i. false) (λ i l. t (8 * m + i) (omega arith) (omega arith))
