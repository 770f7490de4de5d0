-- The trellis of a shift register keeps the laws.
-- Assumes nothing.
use Rattle.std.proofs.Common.{◌≡◌, ℕ, suc, ◌+◌, ◌*◌, ◌/◌, ◌%◌, ◌<◌, ◌≤◌, Bool, true, false, eqb, ltb, ◌⊎◌, Some, None, Option, sym, refl, ap, ◌∙◌, subst, inl, inr, ⊎_elim, arith, ltb-false, ltb-true, eq-eqb, ne_eqb, eqb-true}
use borrow.Author.Tests.{eqb-false}
use Rattle.std.proofs.lemmas.Bool.{cases_lt}
use Rattle.paths.specs.Model.{Model, Lawful}
use Rattle.paths.specs.Registers.{open_if, digit, register}
use Rattle.paths.proofs.Paths.{cheap_by}

-- ---- what is open
pub opened : {X : Type 0} (b : Bool) (x y : X) → open_if b x ≡ Some y → (b ≡ true) × (x ≡ y)
opened true x y e = (refl, cc)
opened false x y e = let z : ◌≡◌ {A = ℕ} 0 1 = cc in absurd (omega arith)

pub is_open : {X : Type 0} (b : Bool) (x : X) → b ≡ true → open_if b x ≡ Some x
is_open b x e = ap (λ z. open_if z x) e

pub digit_low : (b : Bool) → digit b ≤ 1
digit_low true = omega arith
digit_low false = omega arith

odd : (t : ℕ) (b : Bool) → t % 2 ≡ digit b → eqb (t % 2) 1 ≡ b
odd t true e = eq-eqb (t % 2) 1 e
odd t false e = ne_eqb (t % 2) 1 (λ q. omega arith)

odd_digit : (t : ℕ) → digit (eqb (t % 2) 1) ≡ t % 2
odd_digit t = by (eqb (t % 2) 1) refl
  where
    by : (b : Bool) → eqb (t % 2) 1 ≡ b → digit b ≡ t % 2
    by true e = sym (eqb-true (t % 2) 1 e)
    by false e = let n = eqb-false (t % 2) 1 e in omega arith

-- ---- its replies
pub register_leads : (k s : ℕ) (b : Bool) (cost : ℕ → ℕ → ℕ) (reply : Option (ℕ × ℕ)) → (cost k (2 * s + digit b) < 256 → reply ≡ Some ((2 * s + digit b) % 64, cost k (2 * s + digit b))) → (256 ≤ cost k (2 * s + digit b) → reply ≡ None) → reply ≡ open_if (ltb (cost k (2 * s + digit b)) 256) ((2 * s + digit b) % 64, cost k (2 * s + digit b))
register_leads k s b cost reply f g = by (ltb (cost k (2 * s + digit b)) 256) refl
  where
    by : (o : Bool) → ltb (cost k (2 * s + digit b)) 256 ≡ o → reply ≡ open_if o ((2 * s + digit b) % 64, cost k (2 * s + digit b))
    by true q = f (ltb-true _ _ q)
    by false q = g (ltb-false _ _ q)

pub register_enters : (k t : ℕ) (i : Bool) (cost : ℕ → ℕ → ℕ) (reply : Option (ℕ × Bool × ℕ)) → (cost k (t + 64 * digit i) < 256 → reply ≡ Some (t / 2 + 32 * digit i, eqb (t % 2) 1, cost k (t + 64 * digit i))) → (256 ≤ cost k (t + 64 * digit i) → reply ≡ None) → reply ≡ open_if (ltb (cost k (t + 64 * digit i)) 256) (t / 2 + 32 * digit i, eqb (t % 2) 1, cost k (t + 64 * digit i))
register_enters k t i cost reply f g = by (ltb (cost k (t + 64 * digit i)) 256) refl
  where
    by : (o : Bool) → ltb (cost k (t + 64 * digit i)) 256 ≡ o → reply ≡ open_if o (t / 2 + 32 * digit i, eqb (t % 2) 1, cost k (t + 64 * digit i))
    by true q = f (ltb-true _ _ q)
    by false q = g (ltb-false _ _ q)

-- ---- its laws
module _ (n : ℕ) (ends : ℕ → Bool) (narrow : Bool) (cost : ℕ → ℕ → ℕ) where
  abbrev model : Model
  model = register n ends narrow cost

  bounded : (k s : ℕ) (b : Bool) (t c : ℕ) → model.branch k s b ≡ Some (t, c) → (t < 64) × (c ≤ 255)
  bounded k s b t c e =
      let o = opened _ _ (t, c) e in
      let et : (2 * s + digit b) % 64 ≡ t = ap (λ z. z.0) o.1 in
      let ec : cost k (2 * s + digit b) ≡ c = ap (λ z. z.1) o.1 in
      let lt = ltb-true _ _ o.0 in
      (omega arith, omega arith)

  sound : (k t : ℕ) (i : Bool) (s : ℕ) (b : Bool) (c : ℕ) → t < 64 → model.entry k t i ≡ Some (s, b, c) → (s < 64) × (model.branch k s b ≡ Some (t, c))
  sound k t i s b c lt e =
      let o = opened _ _ (s, b, c) e in
      let es : t / 2 + 32 * digit i ≡ s = ap (λ z. z.0) o.1 in
      let eb : eqb (t % 2) 1 ≡ b = ap (λ z. z.1) o.1 in
      let ec : cost k (t + 64 * digit i) ≡ c = ap (λ z. z.2) o.1 in
      let hb : digit b ≡ t % 2 = ap digit (sym eb) ∙ odd_digit t in
      let hi = digit_low i in
      let v : 2 * s + digit b ≡ t + 64 * digit i = omega arith in
      let to : (2 * s + digit b) % 64 ≡ t = omega arith in (
        omega arith,
        is_open _ _ (subst (λ q. ltb (cost k q) 256 ≡ true) (sym v) o.0)
            ∙ (ap (λ q. Some (q, cost k (2 * s + digit b))) to ∙ ap (λ q. Some (t, q)) (ap (cost k) v ∙ ec)),
      )

  complete_at : (k s : ℕ) (b : Bool) (t c : ℕ) (i : Bool) → s < 64 → (2 * s + digit b ≡ t + 64 * digit i) → t < 64 → (t / 2 + 32 * digit i ≡ s) → (t % 2 ≡ digit b) → ltb (cost k (2 * s + digit b)) 256 ≡ true → cost k (2 * s + digit b) ≡ c → model.entry k t i ≡ Some (s, b, c)
  complete_at k s b t c i few v lt es od cheap ec =
      is_open _ _ (subst (λ q. ltb (cost k q) 256 ≡ true) v cheap)
      ∙ (ap (λ q. Some (q, eqb (t % 2) 1, cost k (t + 64 * digit i))) es
      ∙ (ap (λ z. Some (s, z, cost k (t + 64 * digit i))) (odd t b od)
      ∙ ap (λ q. Some (s, b, q)) (ap (cost k) (sym v) ∙ ec)))

  complete : (k s : ℕ) (b : Bool) (t c : ℕ) → s < 64 → model.branch k s b ≡ Some (t, c) → (model.entry k t false ≡ Some (s, b, c)) ⊎ (model.entry k t true ≡ Some (s, b, c))
  complete k s b t c few e =
      let o = opened _ _ (t, c) e in
      let et : (2 * s + digit b) % 64 ≡ t = ap (λ z. z.0) o.1 in
      let ec : cost k (2 * s + digit b) ≡ c = ap (λ z. z.1) o.1 in
      let hb = digit_low b in
      ⊎_elim
      (λ l. inl (complete_at k s b t c false few (omega arith) (omega arith) (omega arith) (omega arith) o.0 ec))
      (λ l. inr (complete_at k s b t c true few (omega arith) (omega arith) (omega arith) (omega arith) o.0 ec))
      (cases_lt s 32)

  ordered : (k t s : ℕ) (b : Bool) (c s' : ℕ) (b' : Bool) (c' : ℕ) → model.entry k t false ≡ Some (s, b, c) → model.entry k t true ≡ Some (s', b', c') → (s < s') ⊎ ((s ≡ s') × (b ≡ false) × (b' ≡ true))
  ordered k t s b c s' b' c' e e' =
      let x : t / 2 + 32 * 0 ≡ s = ap (λ z. z.0) (opened _ _ (s, b, c) e).1 in
      let y : t / 2 + 32 * 1 ≡ s' = ap (λ z. z.0) (opened _ _ (s', b', c') e').1 in
      inl (omega arith)

  -- `bound k` is above what any open path costs in its first k stages
  pub register_lawful : n ≤ 7680 → (bound : ℕ → ℕ) → (narrow ≡ true → (k v : ℕ) → k < n → cost k v < 256 → bound k + cost k v ≤ bound (suc k)) → (narrow ≡ true → (k : ℕ) → k ≤ n → bound k < 65535) → Lawful model
  register_lawful short bound step low = record {
    few_stages = short;
    few_states = omega arith;
    start_within = omega arith;
    bounded = λ k s b t c early few. bounded k s b t c;
    cheap = λ on p k t c le h.
        let paid = cheap_by model bound (omega arith) (λ k s b t c early few e. ((bounded k s b t c e).0, spent on k s b t c early e)) p k t c le h in
        let under = low on k le in
        omega arith;
    wanted_few = λ on. omega arith;
    sound = λ on k t i s b c early. sound k t i s b c;
    complete = λ on k s b t c early. complete k s b t c;
    ordered = λ on k t s b c s' b' c' early few. ordered k t s b c s' b' c';
  }
    where
      spent : narrow ≡ true → (k s : ℕ) (b : Bool) (t c : ℕ) → k < n → model.branch k s b ≡ Some (t, c) → bound k + c ≤ bound (suc k)
      spent on k s b t c early e =
          let o = opened _ _ (t, c) e in
          let ec : cost k (2 * s + digit b) ≡ c = ap (λ z. z.1) o.1 in
          let lt = ltb-true _ _ o.0 in
          let h = step on k (2 * s + digit b) early lt in
          omega arith
