-- The coded bits, one stage at a time.
-- Assumes nothing.
use Rattle.std.proofs.Common.{◌≡◌, ℕ, zero, suc, ◌+◌, ◌*◌, ◌/◌, ◌%◌, ◌^◌, ◌<◌, ◌≤◌, Bool, true, false, eqb, get_or, sym, refl, ap, ◌∙◌, arith}
use native.Mathlib.Nat.{zero-div}
use Rattle.std.proofs.lemmas.Bool.{eq-eqb, ne_eqb}
use Rattle.words.specs.Words.{Bits, ◌⊻◌, plus, digit, ones}
use Rattle.words.proofs.Bridge.{digit_lt}
use Rattle.inner_code.specs.Inner.{earlier, x, y, pattern, coded, Rated, half, two_thirds, three_quarters, five_sixths}
use Rattle.inner_code.proofs.Coding.{coded_at}
use Rattle.inner_words.specs.Receiving.{register, odd, x_of, y_of, sent, x_heard, y_heard, cost_of, cost}

-- ---- the window of a stage
abbrev pub window : Bits → ℕ → ℕ
window u k = 2 * register u k + digit (u k)

pub register_lt : (u : Bits) (k : ℕ) → register u k < 64
unfolding register
register_lt u zero = omega arith
register_lt u (suc k) = omega arith

pub odd_is : (n : ℕ) (b : Bool) → n % 2 ≡ digit b → odd n ≡ b
odd_is n true e = eq-eqb (n % 2) 1 e
odd_is n false e = ne_eqb (n % 2) 1 (λ q. omega arith)

shift : (s b d : ℕ) → b < 2 → d < 6 → (2 * (s % 64) + b) / 2 ^ suc d % 2 ≡ s / 2 ^ d % 2
shift s b zero h l = omega arith
shift s b (suc zero) h l = omega arith
shift s b (suc (suc zero)) h l = omega arith
shift s b (suc (suc (suc zero))) h l = omega arith
shift s b (suc (suc (suc (suc zero)))) h l = omega arith
shift s b (suc (suc (suc (suc (suc zero))))) h l = omega arith
shift s b (suc (suc (suc (suc (suc (suc d)))))) h l = absurd (omega arith)

-- bit d of the window is the bit d places before
pub window_bit : (u : Bits) (k d : ℕ) → d < 7 → odd (window u k / 2 ^ d) ≡ earlier u k d
unfolding earlier register
window_bit u k zero l = odd_is (window u k / 1) (u k) (let h = digit_lt (u k) in omega arith)
window_bit u zero (suc d) l = odd_is (window u 0 / 2 ^ suc d) false (shift 0 (digit (u 0)) d (digit_lt (u 0)) (omega arith) ∙ ap (λ (z : ℕ). z % 2) (zero-div (2 ^ d)))
window_bit u (suc k) (suc d) l = ap (λ (z : ℕ). eqb z 1) (shift (window u k) (digit (u (suc k))) d (digit_lt (u (suc k))) (omega arith)) ∙ window_bit u k d (omega arith)

present : (u : Bits) (k : ℕ) → odd (window u k) ≡ u k
present u k = odd_is (window u k) (u k) (let h = digit_lt (u k) in omega arith)

pub x_is : (u : Bits) (k : ℕ) → x_of (window u k) ≡ x u k
x_is u k = cc (present u k, window_bit u k 1 (omega arith), window_bit u k 2 (omega arith), window_bit u k 3 (omega arith), window_bit u k 6 (omega arith))

pub y_is : (u : Bits) (k : ℕ) → y_of (window u k) ≡ y u k
y_is u k = cc (present u k, window_bit u k 2 (omega arith), window_bit u k 3 (omega arith), window_bit u k 5 (omega arith), window_bit u k 6 (omega arith))

-- ---- where the coded bits of a stage stand
-- stage i of its period, not the first, sends one bit
record One (p k i : ℕ) : Type 0 where
  next : sent p (suc k) ≡ suc (sent p k)
  place : sent p k ≡ (p + 1) * (k / p) + suc i
  low : suc i ≤ p
  at : p * (k / p) + i ≡ k

-- the first stage of a period sends two
record Two (p k : ℕ) : Type 0 where
  next : sent p (suc k) ≡ suc (suc (sent p k))
  place : sent p k ≡ (p + 1) * (k / p) + 0
  place' : suc (sent p k) ≡ (p + 1) * (k / p) + 1
  low : 1 ≤ p
  at : p * (k / p) ≡ k

two : (p k : ℕ) → Rated p → k % p ≡ 0 → Two p k
two p k half e = omega arith
two p k two_thirds e = omega arith
two p k three_quarters e = omega arith
two p k five_sixths e = omega arith

one : (p k i : ℕ) → Rated p → k % p ≡ suc i → One p k (suc i)
one p k i half e = omega arith
one p k i two_thirds e = omega arith
one p k i three_quarters e = omega arith
one p k i five_sixths e = omega arith

pub phase_lt : (p k : ℕ) → Rated p → k % p < 5
phase_lt p k half = omega arith
phase_lt p k two_thirds = omega arith
phase_lt p k three_quarters = omega arith
phase_lt p k five_sixths = omega arith

-- the output that a stage of a period sends where it sends one, and the first that it sends where it sends two
abbrev pub output : ℕ → Bits → ℕ → Bool
output zero u k = x u k
output (suc zero) u k = y u k
output (suc (suc zero)) u k = x u k
output (suc (suc (suc zero))) u k = y u k
output (suc (suc (suc (suc i)))) u k = x u k

sent_one : (p k i : ℕ) (u : Bits) → Rated p → i < 5 → One p k i → 0 < i → coded p u (sent p k) ≡ output i u k
sent_one p k i u r l o h = ap (coded p u) o.place ∙ coded_at p u (k / p) (suc i) r o.low ∙ by i l h ∙ ap (output i u) o.at
  where
    by : (i : ℕ) → i < 5 → 0 < i → get_or (pattern u (p * (k / p))) (suc i) false ≡ output i u (p * (k / p) + i)
    by zero l h = absurd (omega arith)
    by (suc zero) l h = refl
    by (suc (suc zero)) l h = refl
    by (suc (suc (suc zero))) l h = refl
    by (suc (suc (suc (suc zero)))) l h = refl
    by (suc (suc (suc (suc (suc i))))) l h = absurd (omega arith)

sent_x : (p k : ℕ) (u : Bits) → Rated p → Two p k → coded p u (sent p k) ≡ x u k
sent_x p k u r o = ap (coded p u) o.place ∙ coded_at p u (k / p) 0 r (omega arith) ∙ ap (x u) o.at

sent_y : (p k : ℕ) (u : Bits) → Rated p → Two p k → coded p u (suc (sent p k)) ≡ y u k
sent_y p k u r o = ap (coded p u) o.place' ∙ coded_at p u (k / p) 1 r o.low ∙ ap (y u) o.at

-- the first coded bit of a stage
pub sent_first : (p k : ℕ) (u : Bits) → Rated p → coded p u (sent p k) ≡ output (k % p) u k
sent_first p k u r = by (k % p) refl (phase_lt p k r)
  where
    by : (i : ℕ) → k % p ≡ i → i < 5 → coded p u (sent p k) ≡ output i u k
    by zero e l = sent_x p k u r (two p k r e)
    by (suc i) e l = sent_one p k (suc i) u r l (one p k i r e) (omega arith)

-- ---- how many are sent
pub sent_all : (p q : ℕ) → Rated p → sent p (p * q) ≡ (p + 1) * q
sent_all p q half = omega arith
sent_all p q two_thirds = omega arith
sent_all p q three_quarters = omega arith
sent_all p q five_sixths = omega arith

pub sent_more : (p k n : ℕ) → Rated p → k < n → sent p k < sent p n
sent_more p k n half l = omega arith
sent_more p k n two_thirds l = omega arith
sent_more p k n three_quarters l = omega arith
sent_more p k n five_sixths l = omega arith

-- ---- one stage more
-- the wrong bits among the first n coded bits
abbrev pub wrongs : ℕ → Bits → Bits → ℕ
wrongs n a heard = ones n (plus a heard)

wrongs_one : (n m : ℕ) (a heard : Bits) (c : Bool) → m ≡ suc n → a n ≡ c → wrongs m a heard ≡ wrongs n a heard + digit (c ⊻ heard n)
unfolding ones
wrongs_one n m a heard c e f = ap (λ (z : ℕ). wrongs z a heard) e ∙ ap (λ (b : Bool). wrongs n a heard + digit (b ⊻ heard n)) f

abbrev cost_at : ℕ → ℕ → Bits → ℕ → ℕ
cost_at i v heard j = cost_of v (x_heard i heard j) (y_heard i heard j)

by_one : (p k i : ℕ) (u heard : Bits) → Rated p → One p k i → i < 5 → 0 < i → wrongs (sent p (suc k)) (coded p u) heard ≡ wrongs (sent p k) (coded p u) heard + cost_at i (window u k) heard (sent p k)
by_one p k i u heard r o l h = step ∙ ap (λ (z : ℕ). wrongs (sent p k) (coded p u) heard + z) (by i l h)
  where
    step : wrongs (sent p (suc k)) (coded p u) heard ≡ wrongs (sent p k) (coded p u) heard + digit (output i u k ⊻ heard (sent p k))
    step = wrongs_one (sent p k) (sent p (suc k)) (coded p u) heard (output i u k) o.next (sent_one p k i u r l o h)

    agree : (a b : Bool) → a ≡ b → digit (b ⊻ heard (sent p k)) ≡ digit (a ⊻ heard (sent p k))
    agree a b e = ap (λ (z : Bool). digit (z ⊻ heard (sent p k))) (sym e)

    by : (i : ℕ) → i < 5 → 0 < i → digit (output i u k ⊻ heard (sent p k)) ≡ cost_at i (window u k) heard (sent p k)
    by zero l h = absurd (omega arith)
    by (suc zero) l h = let e = agree (y_of (window u k)) (y u k) (y_is u k) in omega arith
    by (suc (suc zero)) l h = let e = agree (x_of (window u k)) (x u k) (x_is u k) in omega arith
    by (suc (suc (suc zero))) l h = let e = agree (y_of (window u k)) (y u k) (y_is u k) in omega arith
    by (suc (suc (suc (suc zero)))) l h = let e = agree (x_of (window u k)) (x u k) (x_is u k) in omega arith
    by (suc (suc (suc (suc (suc i))))) l h = absurd (omega arith)

by_two : (p k : ℕ) (u heard : Bits) → Rated p → Two p k → wrongs (sent p (suc k)) (coded p u) heard ≡ wrongs (sent p k) (coded p u) heard + cost_at 0 (window u k) heard (sent p k)
by_two p k u heard r o =
    let a = wrongs_one (suc (sent p k)) (sent p (suc k)) (coded p u) heard (y_of (window u k)) o.next (sent_y p k u r o ∙ sym (y_is u k)) in
    let b = wrongs_one (sent p k) (suc (sent p k)) (coded p u) heard (x_of (window u k)) refl (sent_x p k u r o ∙ sym (x_is u k)) in
    omega arith

-- a stage adds its cost to the wrong bits
pub stage : (p k : ℕ) (u heard : Bits) → Rated p → wrongs (sent p (suc k)) (coded p u) heard ≡ wrongs (sent p k) (coded p u) heard + cost p heard k (window u k)
unfolding cost
stage p k u heard r = by (k % p) refl (phase_lt p k r)
  where
    by : (i : ℕ) → k % p ≡ i → i < 5 → wrongs (sent p (suc k)) (coded p u) heard ≡ wrongs (sent p k) (coded p u) heard + cost_at i (window u k) heard (sent p k)
    by zero e l = by_two p k u heard r (two p k r e)
    by (suc i) e l = by_one p k (suc i) u heard r (one p k i r e) l (omega arith)

pub start : (p : ℕ) (a heard : Bits) → Rated p → wrongs (sent p 0) a heard ≡ 0
unfolding ones
start p a heard half = refl
start p a heard two_thirds = refl
start p a heard three_quarters = refl
start p a heard five_sixths = refl
