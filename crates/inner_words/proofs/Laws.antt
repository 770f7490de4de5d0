-- The receive trellis keeps what every trellis keeps.
-- Assumes nothing.
use Rattle.std.proofs.Common.{◌≡◌, ℕ, zero, suc, ◌+◌, ◌*◌, ◌/◌, ◌%◌, ◌<◌, ◌≤◌, Bool, true, false, ◌⊎◌, Some, None, Option, sym, ap, ◌∙◌, ap₂, inl, inr, ⊎_elim, arith}
use Rattle.std.proofs.lemmas.Bool.{cases_lt}
use Rattle.words.specs.Words.{Bits, ◌⊻◌, digit}
use Rattle.words.proofs.Bridge.{digit_lt, eqb_digit}
use Rattle.paths.specs.Model.{Path, after, Lawful}
use Rattle.std.proofs.lemmas.Option.{same_Some}
use Rattle.paths.proofs.Paths.{came}
use Rattle.inner_words.specs.Receiving.{odd, x_of, y_of, sent, x_heard, y_heard, differs, cost, allowed, receiving}
use Rattle.inner_words.proofs.Stages.{odd_is}
use Rattle.inner_words.proofs.Receiving.{is_open, opened}

differs_le : (b : Bool) (h : Option Bool) → differs b h ≤ 1
differs_le b None = omega arith
differs_le b (Some h) = let l = digit_lt (b ⊻ h) in omega arith

pub cost_le : (p : ℕ) (heard : Bits) (k v : ℕ) → cost p heard k v ≤ 2
unfolding cost
cost_le p heard k v = omega (arith, differs_le (x_of v) (x_heard (k % p) heard (sent p k)), differs_le (y_of v) (y_heard (k % p) heard (sent p k)))

odd_digit : (t : ℕ) → digit (odd t) ≡ t % 2
odd_digit t = eqb_digit (t % 2) (omega arith)

module _ (p n : ℕ) (heard : Bits) where
  -- what a branch is
  record Led (k s : ℕ) (b : Bool) (t c : ℕ) : Type 0 where
    free : allowed n k b ≡ true
    to : (2 * s + digit b) % 64 ≡ t
    at : cost p heard k (2 * s + digit b) ≡ c

  led : (k s : ℕ) (b : Bool) (t c : ℕ) → (receiving p n heard).branch k s b ≡ Some (t, c) → Led k s b t c
  led k s b t c e =
      let o = opened (allowed n k b) ((2 * s + digit b) % 64, cost p heard k (2 * s + digit b)) (t, c) e in
      record { free = o.0; to = ap (λ z. z.0) o.1; at = ap (λ z. z.1) o.1 }

  sound : (k t : ℕ) (i : Bool) (s : ℕ) (b : Bool) (c : ℕ) → t < 64 → (receiving p n heard).entry k t i ≡ Some (s, b, c) → (s < 64) × ((receiving p n heard).branch k s b ≡ Some (t, c))
  sound k t i s b c lt e =
      let o = opened (allowed n k (odd t)) (t / 2 + 32 * digit i, odd t, cost p heard k (t + 64 * digit i)) (s, b, c) e in
      let es : t / 2 + 32 * digit i ≡ s = ap (λ z. z.0) o.1 in
      let eb : odd t ≡ b = ap (λ z. z.1) o.1 in
      let ec : cost p heard k (t + 64 * digit i) ≡ c = ap (λ z. z.2) o.1 in
      let hb : digit b ≡ t % 2 = ap digit (sym eb) ∙ odd_digit t in
      let hi = digit_lt i in
      let v : 2 * s + digit b ≡ t + 64 * digit i = omega arith in
      let to : (2 * s + digit b) % 64 ≡ t = omega arith in (
        omega arith,
        is_open (allowed n k b) ((2 * s + digit b) % 64, cost p heard k (2 * s + digit b)) (ap (allowed n k) (sym eb) ∙ o.0)
            ∙ ap₂ (λ (a b : ℕ). Some (a, b)) to (ap (cost p heard k) v ∙ ec),
      )

  complete_at : (k s : ℕ) (b : Bool) (t c : ℕ) (i : Bool) → 2 * s + digit b ≡ t + 64 * digit i → t / 2 + 32 * digit i ≡ s → t % 2 ≡ digit b → allowed n k b ≡ true → cost p heard k (2 * s + digit b) ≡ c → (receiving p n heard).entry k t i ≡ Some (s, b, c)
  complete_at k s b t c i v es od a ec =
      let o = odd_is t b od in
      is_open (allowed n k (odd t)) (t / 2 + 32 * digit i, odd t, cost p heard k (t + 64 * digit i)) (ap (allowed n k) o ∙ a)
      ∙ ap₂ (λ (x : ℕ) (y : Bool). Some (x, y, cost p heard k (t + 64 * digit i))) es o
      ∙ ap (λ (z : ℕ). Some (s, b, z)) (ap (cost p heard k) (sym v) ∙ ec)

  complete : (k s : ℕ) (b : Bool) (t c : ℕ) → s < 64 → (receiving p n heard).branch k s b ≡ Some (t, c) → ((receiving p n heard).entry k t false ≡ Some (s, b, c)) ⊎ ((receiving p n heard).entry k t true ≡ Some (s, b, c))
  complete k s b t c few e =
      let o = led k s b t c e in
      let et = o.to in
      let hb = digit_lt b in
      ⊎_elim
      (λ l. inl (complete_at k s b t c false (omega arith) (omega arith) (omega arith) o.free o.at))
      (λ l. inr (complete_at k s b t c true (omega arith) (omega arith) (omega arith) o.free o.at))
      (cases_lt s 32)

  ordered : (k t s : ℕ) (b : Bool) (c s' : ℕ) (b' : Bool) (c' : ℕ) → (receiving p n heard).entry k t false ≡ Some (s, b, c) → (receiving p n heard).entry k t true ≡ Some (s', b', c') → (s < s') ⊎ ((s ≡ s') × (b ≡ false) × (b' ≡ true))
  ordered k t s b c s' b' c' e e' =
      let x : t / 2 + 32 * 0 ≡ s = ap (λ z. z.0) (opened _ _ (s, b, c) e).1 in
      let y : t / 2 + 32 * 1 ≡ s' = ap (λ z. z.0) (opened _ _ (s', b', c') e').1 in
      inl (omega arith)

  bounded : (k s : ℕ) (b : Bool) (t c : ℕ) → (receiving p n heard).branch k s b ≡ Some (t, c) → (t < 64) × (c ≤ 255)
  bounded k s b t c e =
      let o = led k s b t c e in
      let to = o.to in
      let at = o.at in
      let le = cost_le p heard k (2 * s + digit b) in
      (omega arith, omega arith)

  -- a stage costs at most 2
  cheap : (u : Path) (k t c : ℕ) → after (receiving p n heard) u k ≡ Some (t, c) → c ≤ 2 * k
  unfolding after
  cheap u zero t c e = let z : ◌≡◌ {A = ℕ} 0 c = ap (λ z. z.1) (same_Some (0, 0) (t, c) e) in omega arith
  cheap u (suc k) t c e =
      let a = came (receiving p n heard) u k t c e in
      let i = cheap u k a.s a.d a.at in
      let at = (led k a.s (u k) t a.e a.step).at in
      let le = cost_le p heard k (2 * a.s + digit (u k)) in
      let sum = a.sum in
      omega arith

  pub lawful : n ≤ 7680 → Lawful (receiving p n heard)
  lawful short = record {
    few_stages = short;
    few_states = omega arith;
    start_within = omega arith;
    bounded = λ k s b t c early low. bounded k s b t c;
    cheap = λ on u k t c le e. let l = cheap u k t c e in omega arith;
    wanted_few = λ on. omega arith;
    sound = λ on k t i s b c early. sound k t i s b c;
    complete = λ on k s b t c early. complete k s b t c;
    ordered = λ on k t s b c s' b' c' early low. ordered k t s b c s' b' c';
  }
