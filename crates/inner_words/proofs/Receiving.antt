-- The receive trellis: its open paths, its ties, and the nearest word.
-- Assumes nothing.
use Rattle.std.proofs.Common.{◌≡◌, ℕ, zero, suc, ◌+◌, ◌-◌, ◌*◌, ◌/◌, ◌%◌, ◌^◌, ◌<◌, ◌≤◌, Bool, true, false, eqb, Some, sym, refl, ap, ◌∙◌, subst, ⊎_elim, eq-or-lt_of_le, arith}
use Rattle.std.proofs.lemmas.Bool.{cases_lt, ltb-true, lt-ltb}
use Rattle.words.specs.Words.{Bits, digit}
use Rattle.words.proofs.Bridge.{digit_lt, digit_eqb}
use Rattle.inner_code.specs.Inner.{earlier, coded, Rated}
use Rattle.paths.specs.Model.{after, paid, onward}
use Rattle.paths.specs.Ties.{state, state_of, First, BitsFirst, lower_bit, same_states, lower_state}
use Rattle.paths.specs.Answers.{FirstPath, Unreachable}
use Rattle.std.proofs.lemmas.Option.{same_Some}
use Rattle.paths.proofs.Paths.{came}
use Rattle.inner_words.specs.InnerWords.{Tailed, wrong, Nearest}
use Rattle.inner_words.specs.Receiving.{register, cost, sent, allowed, open_if, receiving}
use Rattle.inner_words.proofs.Stages.{window, register_lt, odd_is, window_bit, wrongs, stage, start, sent_all}

pub is_open : {X : Type 0} (b : Bool) (x : X) → b ≡ true → open_if b x ≡ Some x
is_open b x e = ap (λ z. open_if z x) e

pub opened : {X : Type 0} (b : Bool) (x y : X) → open_if b x ≡ Some y → (b ≡ true) × (x ≡ y)
opened true x y e = (refl, cc)
opened false x y e = cc

may : (n k : ℕ) (b : Bool) → (n ≤ k + 8 → b ≡ false) → allowed n k b ≡ true
may n k false h = refl
may n k true h = ⊎_elim (λ l. lt-ltb (k + 8) n l) (λ l. cc (h l)) (cases_lt (k + 8) n)

must : (n k : ℕ) (b : Bool) → allowed n k b ≡ true → n ≤ k + 8 → b ≡ false
must n k false e l = refl
must n k true e l = let h = ltb-true (k + 8) n e in absurd (omega arith)

-- ---- paths
-- a word whose tail is 0 so far is open
pub opens : (p n : ℕ) (heard u : Bits) (k : ℕ) → Rated p → ((j : ℕ) → j < k → n ≤ j + 8 → u j ≡ false) → after (receiving p n heard) u k ≡ Some (register u k, wrongs (sent p k) (coded p u) heard)
unfolding after register
opens p n heard u zero r h = ap (λ (c : ℕ). Some (0, c)) (sym (start p (coded p u) heard r))
opens p n heard u (suc k) r h =
    ap (onward (receiving p n heard) k (u k)) (opens p n heard u k r (λ j l. h j (omega arith)))
    ∙ ap (paid (wrongs (sent p k) (coded p u) heard)) (is_open (allowed n k (u k)) (window u k % 64, cost p heard k (window u k)) (may n k (u k) (h k (omega arith))))
    ∙ ap (λ (c : ℕ). Some (window u k % 64, c)) (sym (stage p k u heard r))

-- and no other
pub only : (p n : ℕ) (heard u : Bits) (k t c : ℕ) → after (receiving p n heard) u k ≡ Some (t, c) → (j : ℕ) → j < k → n ≤ j + 8 → u j ≡ false
only p n heard u zero t c e j l h = absurd (omega arith)
only p n heard u (suc k) t c e j l h =
    let a = came (receiving p n heard) u k t c e in
    ⊎_elim
    (λ q. subst (λ (i : ℕ). u i ≡ false) (sym q) (must n k (u k) (opened (allowed n k (u k)) ((2 * a.s + digit (u k)) % 64, cost p heard k (2 * a.s + digit (u k))) (t, a.e) a.step).0 (omega arith)))
    (λ m. only p n heard u k a.s a.d a.at j m h)
    (eq-or-lt_of_le (omega arith))

-- a tailed word arrives with its wrong bits
pub arrives : (p q : ℕ) (heard u : Bits) → Rated p → Tailed (p * q) u → after (receiving p (p * q) heard) u (p * q) ≡ Some (register u (p * q), wrong p q u heard)
arrives p q heard u r t = opens p (p * q) heard u (p * q) r t ∙ ap (λ (m : ℕ). Some (register u (p * q), wrongs m (coded p u) heard)) (sent_all p q r)

-- ---- ties
earlier_at : (u : Bits) (k d : ℕ) → d ≤ k → earlier u k d ≡ u (k - d)
unfolding earlier
earlier_at u k zero l = ap u (omega arith)
earlier_at u zero (suc d) l = absurd (omega arith)
earlier_at u (suc k) (suc d) l = earlier_at u k d (omega arith) ∙ ap u (omega arith)

earlier_before : (u : Bits) (k d : ℕ) → k < d → earlier u k d ≡ false
unfolding earlier
earlier_before u k zero l = absurd (omega arith)
earlier_before u zero (suc d) l = refl
earlier_before u (suc k) (suc d) l = earlier_before u k d (omega arith)

high : (s d : ℕ) → d < 6 → (s + 64) / 2 ^ d % 2 ≡ s / 2 ^ d % 2
high s zero l = omega arith
high s (suc zero) l = omega arith
high s (suc (suc zero)) l = omega arith
high s (suc (suc (suc zero))) l = omega arith
high s (suc (suc (suc (suc zero)))) l = omega arith
high s (suc (suc (suc (suc (suc zero))))) l = omega arith
high s (suc (suc (suc (suc (suc (suc d)))))) l = absurd (omega arith)

digit_inj : (a b : Bool) → digit a ≡ digit b → a ≡ b
digit_inj a b e = sym (digit_eqb a) ∙ ap (λ (z : ℕ). eqb z 1) e ∙ digit_eqb b

zeros : (u : Bits) (k : ℕ) → ((j : ℕ) → j < k → u j ≡ false) → register u k ≡ 0
unfolding register
zeros u zero h = refl
zeros u (suc k) h = let e = zeros u k (λ j l. h j (omega arith)) in let f = ap digit (h k (omega arith)) in omega arith

-- six zeros empty the register
fades : (u : Bits) (k : ℕ) → ((j : ℕ) → j < 6 → u (k + j) ≡ false) → register u (k + 6) ≡ 0
unfolding register
fades u k h = let e : suc (suc (suc (suc (suc (suc k))))) ≡ k + 6 = omega arith in subst (λ (z : ℕ). register u z ≡ 0) e six
  where
    off : (j i : ℕ) → j < 6 → k + j ≡ i → digit (u i) ≡ 0
    off j i l e = ap digit (subst (λ (z : ℕ). u z ≡ false) e (h j l))

    six : register u (suc (suc (suc (suc (suc (suc k)))))) ≡ 0
    six = omega (arith, off 0 k (omega arith) (omega arith), off 1 (suc k) (omega arith) (omega arith), off 2 (suc (suc k)) (omega arith) (omega arith), off 3 (suc (suc (suc k))) (omega arith) (omega arith), off 4 (suc (suc (suc (suc k)))) (omega arith) (omega arith), off 5 (suc (suc (suc (suc (suc k))))) (omega arith) (omega arith))

-- so all tailed words end in the same state
pub empty : (n : ℕ) (u : Bits) → Tailed n u → register u n ≡ 0
empty n u h =
    ⊎_elim
    (λ l. zeros u n (λ j m. h j m (omega arith)))
    (λ l. let e : n - 6 + 6 ≡ n = omega arith in subst (λ (z : ℕ). register u z ≡ 0) e (fades u (n - 6) (λ j m. h (n - 6 + j) (omega arith) (omega arith))))
    (cases_lt n 6)

-- the same register after a stage: the same bit, and registers before it that are the same or 32 apart
bit_same : (u v : Bits) (k : ℕ) → register u (suc k) ≡ register v (suc k) → u k ≡ v k
unfolding register
bit_same u v k e = digit_inj (u k) (v k) (let a = digit_lt (u k) in let b = digit_lt (v k) in omega arith)

apart : (u v : Bits) (k : ℕ) → register u (suc k) ≡ register v (suc k) → register u k < register v k → window v k ≡ window u k + 64
unfolding register
apart u v k e l = let a = digit_lt (u k) in let b = digit_lt (v k) in let c = register_lt v k in omega arith

-- then the words differ six places before, and no later
module _ (u v : Bits) (n k : ℕ) (early : k < n) (gap : window v k ≡ window u k + 64) (later : (j : ℕ) → k < j → j ≤ n → register u j ≡ register v j) where
  near : (d : ℕ) → d < 6 → earlier u k d ≡ earlier v k d
  near d l = sym (window_bit u k d (omega arith)) ∙ ap (λ (z : ℕ). eqb z 1) (sym (high (window u k) d l) ∙ ap (λ (z : ℕ). z / 2 ^ d % 2) (sym gap)) ∙ window_bit v k d (omega arith)

  low_u : earlier u k 6 ≡ false
  low_u = sym (window_bit u k 6 (omega arith)) ∙ odd_is (window u k / 64) false (let c = register_lt v k in let b = digit_lt (v k) in omega arith)

  high_v : earlier v k 6 ≡ true
  high_v = sym (window_bit v k 6 (omega arith)) ∙ odd_is (window v k / 64) true (let c = register_lt v k in let b = digit_lt (v k) in omega arith)

  deep : 6 ≤ k
  deep = ⊎_elim (λ l. cc (earlier_before v k 6 l, high_v)) (λ l. l) (cases_lt k 6)

  rest : (i : ℕ) → k - 6 < i → i < n → u i ≡ v i
  rest i l m =
      ⊎_elim
      (λ b.
      let e : k - (k - i) ≡ i = omega arith in
      subst (λ (z : ℕ). u z ≡ v z) e (sym (earlier_at u k (k - i) (omega arith)) ∙ near (k - i) (let d = deep in omega arith) ∙ earlier_at v k (k - i) (omega arith)))
      (λ b. bit_same u v i (later (suc i) (omega arith) (omega arith)))
      (cases_lt i k)

  lower : BitsFirst u v n
  lower = let d = deep in lower_bit (k - 6) (omega arith) (sym (earlier_at u k 6 d) ∙ low_u) (sym (earlier_at v k 6 d) ∙ high_v) rest

pub tie : (p n : ℕ) (heard u v : Bits) → Rated p → Tailed n u → Tailed n v → First (receiving p n heard) u v n → BitsFirst u v n
tie p n heard u v r tu tv (same_states f g) = g
tie p n heard u v r tu tv (lower_state k l less same) =
    ⊎_elim
    (λ e.
    let a : register u k ≡ 0 = subst (λ (z : ℕ). register u z ≡ 0) (sym e) (empty n u tu) in
    let b : register v k ≡ 0 = subst (λ (z : ℕ). register v z ≡ 0) (sym e) (empty n v tv) in
    let c = at u k l tu in
    let d = at v k l tv in
    absurd (omega arith))
    (λ m.
    let c = at u k l tu in
    let d = at v k l tv in
    lower u v n k m (apart u v k (later (suc k) (omega arith) m) (omega arith)) later)
    (eq-or-lt_of_le l)
  where
    at : (w : Bits) (j : ℕ) → j ≤ n → Tailed n w → state (receiving p n heard) w j ≡ register w j
    at w j l t = ap state_of (opens p n heard w j r (λ i m. t i (omega arith)))

    later : (j : ℕ) → k < j → j ≤ n → register u j ≡ register v j
    later j a b = sym (at u j b tu) ∙ same j a b ∙ at v j b tv

-- ---- the first path is the nearest word
pub nearest : (p q : ℕ) (heard : Bits) (c : ℕ) (u : Bits) → Rated p → FirstPath (receiving p (p * q) heard) c u → Nearest p q heard u × (c ≡ wrong p q u heard)
nearest p q heard c u r f = (
  record {
    tailed = tailed;
    least = λ v t. let l = f.least v (wrong p q v heard) (record { end = register v (p * q); ends = refl; stands = arrives p q heard v r t }) in omega (arith, count);
    first = λ v t e. tie p (p * q) heard u v r tailed t (f.first v (record { end = register v (p * q); ends = refl; stands = arrives p q heard v r t ∙ ap (λ (z : ℕ). Some (register v (p * q), z)) (e ∙ sym count) }));
  },
  count,
)
  where
    tailed : Tailed (p * q) u
    tailed = only p (p * q) heard u (p * q) f.arrives.end c f.arrives.stands

    count : c ≡ wrong p q u heard
    count = ap (λ z. z.1) (same_Some (f.arrives.end, c) (register u (p * q), wrong p q u heard) (sym f.arrives.stands ∙ arrives p q heard u r tailed))

-- the word of zeros is always open
pub never_unreachable : (p q : ℕ) (heard : Bits) → Rated p → Unreachable (receiving p (p * q) heard) → ⊥
never_unreachable p q heard r none = none (λ k. false) (wrong p q (λ k. false) heard) (record { end = register (λ k. false) (p * q); ends = refl; stands = arrives p q heard (λ k. false) r (λ j l m. refl) })
