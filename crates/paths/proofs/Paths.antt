-- Paths, one stage at a time.
-- Assumes nothing.
use Rattle.std.proofs.Common.{◌≡◌, ℕ, zero, suc, ◌+◌, ◌*◌, ◌<◌, ◌≤◌, Bool, true, false, cond, eqb, ◌⊎◌, Some, None, Option, sym, refl, ap, ◌∙◌, subst, inl, inr, ⊎_elim, eq-or-lt_of_le, arith, eq-eqb, ne_eqb}
use Rattle.std.proofs.lemmas.Option.{same_Some}
use Rattle.paths.specs.Model.{Model, Lawful, Path, after, paid, onward}
use Rattle.paths.specs.Ties.{state_of, First, BitsFirst, same_bits, lower_bit, same_states, lower_state}

-- a path with another bit at stage k
abbrev pub upd : Path → ℕ → Bool → Path
upd w k b j = cond (eqb j k) b (w j)

pub upd_at : (w : Path) (k : ℕ) (b : Bool) → upd w k b k ≡ b
upd_at w k b = let e : eqb k k ≡ true = eq-eqb k k refl in ap (λ x. cond x b (w k)) e

pub upd_off : (w : Path) (k : ℕ) (b : Bool) (j : ℕ) → j < k → upd w k b j ≡ w j
upd_off w k b j h = let e : eqb j k ≡ false = ne_eqb j k (λ q. omega arith) in ap (λ x. cond x b (w j)) e

pub after_same : (m : Model) (w v : Path) (k : ℕ) → ((j : ℕ) → j < k → w j ≡ v j) → after m w k ≡ after m v k
unfolding after
after_same m w v zero h = refl
after_same m w v (suc k) h =
    let e = after_same m w v k (λ j l. h j (omega arith)) in
    let b = h k (omega arith) in
    cc

pub after_on : (m : Model) (w : Path) (k s c t d : ℕ) (b : Bool) → after m w k ≡ Some (s, c) → m.branch k s b ≡ Some (t, d) → after m (upd w k b) (suc k) ≡ Some (t, c + d)
unfolding after
after_on m w k s c t d b e f =
    let g : after m (upd w k b) k ≡ Some (s, c) = after_same m (upd w k b) w k (λ j l. upd_off w k b j l) ∙ e in
    let h = upd_at w k b in
    ap (onward m k (upd w k b k)) g ∙ (ap (λ x. onward m k x (Some (s, c))) h ∙ ap (paid c) f)

-- how a path came to its last state
pub record Came (m : Model) (v : Path) (k t c : ℕ) : Type 0 where
  pub s : ℕ
  pub d : ℕ
  pub e : ℕ
  pub at : after m v k ≡ Some (s, d)
  pub step : m.branch k s (v k) ≡ Some (t, e)
  pub sum : c ≡ d + e

came_by : (m : Model) (v : Path) (k t c s d : ℕ) (q : Option (ℕ × ℕ)) → after m v k ≡ Some (s, d) → m.branch k s (v k) ≡ q → paid d q ≡ Some (t, c) → Came m v k t c
came_by m v k t c s d None a e h = let z : ◌≡◌ {A = ℕ} 0 1 = cc in absurd (omega arith)
came_by m v k t c s d (Some q) a e h =
    let p = same_Some (q.0, d + q.1) (t, c) h in
    let x : q.0 ≡ t = ap (λ z. z.0) p in
    let y : d + q.1 ≡ c = ap (λ z. z.1) p in
    record { s = s; d = d; e = q.1; at = a; step = e ∙ ap (λ n. Some (n, q.1)) x; sum = sym y }

came_at : (m : Model) (v : Path) (k t c : ℕ) (o : Option (ℕ × ℕ)) → after m v k ≡ o → onward m k (v k) o ≡ Some (t, c) → Came m v k t c
came_at m v k t c None e h = let z : ◌≡◌ {A = ℕ} 0 1 = cc in absurd (omega arith)
came_at m v k t c (Some p) e h = came_by m v k t c p.0 p.1 (m.branch k p.0 (v k)) e refl h

pub came : (m : Model) (v : Path) (k t c : ℕ) → after m v (suc k) ≡ Some (t, c) → Came m v k t c
unfolding after
came m v k t c h = came_at m v k t c (after m v k) refl h

pub after_within : (m : Model) → Lawful m → (v : Path) (k t c : ℕ) → k ≤ m.stages → after m v k ≡ Some (t, c) → t < m.states
unfolding after
after_within m law v zero t c le h =
    let x : m.start ≡ t = ap (λ z. z.0) (same_Some (m.start, 0) (t, c) h) in
    let y = law.start_within in
    omega arith
after_within m law v (suc k) t c le h =
    let r : Came m v k t c = came m v k t c h in
    let w = after_within m law v k r.s r.d (omega arith) r.at in
    (law.bounded k r.s (v k) t r.e (omega arith) w r.step).0

-- no stage costs more than 255
pub after_cost : (m : Model) → Lawful m → (v : Path) (k t c : ℕ) → k ≤ m.stages → after m v k ≡ Some (t, c) → c ≤ 255 * k
unfolding after
after_cost m law v zero t c le h = let x : 0 ≡ c = ap (λ z. z.1) (same_Some (m.start, 0) (t, c) h) in omega arith
after_cost m law v (suc k) t c le h =
    let r : Came m v k t c = came m v k t c h in
    let w = after_within m law v k r.s r.d (omega arith) r.at in
    let b = law.bounded k r.s (v k) t r.e (omega arith) w r.step in
    let d = after_cost m law v k r.s r.d (omega arith) r.at in
    let sum = r.sum in
    omega arith

-- what holds below k, and at k, holds up to k
pub at_most : (P : ℕ → Type 0) (k : ℕ) → ((j : ℕ) → j < k → P j) → P k → (j : ℕ) → j < suc k → P j
at_most P k below here j h = ⊎_elim (λ e. subst P (sym e) here) (λ l. below j l) (eq-or-lt_of_le (omega arith))

bits_on : (w v : Path) (k : ℕ) (b : Bool) → BitsFirst w v k → (b ≡ v k) ⊎ ((b ≡ false) × (v k ≡ true)) → BitsFirst (upd w k b) v (suc k)
bits_on w v k b f (inr o) = lower_bit k (omega arith) (upd_at w k b ∙ o.0) o.1 (λ j l h. absurd (omega arith))
bits_on w v k b (same_bits f) (inl o) =
    same_bits (at_most (λ j. upd w k b j ≡ v j) k (λ j l. upd_off w k b j l ∙ f j l) (upd_at w k b ∙ o))
bits_on w v k b (lower_bit i l x y f) (inl o) =
    lower_bit i (omega arith) (upd_off w k b i l ∙ x) y
    (λ j g h. at_most (λ n. i < n → upd w k b n ≡ v n) k (λ n z u. upd_off w k b n z ∙ f n u z) (λ u. upd_at w k b ∙ o) j h g)

after_upd : (m : Model) (w : Path) (k : ℕ) (b : Bool) (j : ℕ) → j ≤ k → after m (upd w k b) j ≡ after m w j
after_upd m w k b j h = after_same m (upd w k b) w j (λ i l. upd_off w k b i (omega arith))

-- one stage more, with the same state at its end
pub first_on : (m : Model) (w v : Path) (k : ℕ) (b : Bool) → First m w v k → state_of (after m (upd w k b) (suc k)) ≡ state_of (after m v (suc k)) → (b ≡ v k) ⊎ ((b ≡ false) × (v k ≡ true)) → First m (upd w k b) v (suc k)
first_on m w v k b (same_states f g) e o =
    same_states
    (λ j l. at_most (λ n. state_of (after m (upd w k b) n) ≡ state_of (after m v n)) (suc k) (λ n z. ap state_of (after_upd m w k b n (omega arith)) ∙ f n (omega arith)) e j (omega arith))
    (bits_on w v k b g o)
first_on m w v k b (lower_state i l x f) e o =
    lower_state i (omega arith) (let p = ap state_of (after_upd m w k b i l) in omega arith)
    (λ j g h. at_most (λ n. i < n → state_of (after m (upd w k b) n) ≡ state_of (after m v n)) (suc k) (λ n z u. ap state_of (after_upd m w k b n (omega arith)) ∙ f n u (omega arith)) (λ u. e) j (omega arith) g)

-- the states differ at k, and not after
pub first_lower : (m : Model) (w v : Path) (k : ℕ) (b : Bool) → state_of (after m w k) < state_of (after m v k) → state_of (after m (upd w k b) (suc k)) ≡ state_of (after m v (suc k)) → First m (upd w k b) v (suc k)
first_lower m w v k b l e =
    lower_state k (omega arith) (let p = ap state_of (after_upd m w k b k (omega arith)) in omega arith)
    (λ j g h. let q : suc k ≡ j = omega arith in subst (λ n. state_of (after m (upd w k b) n) ≡ state_of (after m v n)) q e)

-- a bound that every open branch keeps bounds every open path
pub cheap_by : (m : Model) (bound : ℕ → ℕ) → m.start < m.states → ((k s : ℕ) (b : Bool) (t c : ℕ) → k < m.stages → s < m.states → m.branch k s b ≡ Some (t, c) → (t < m.states) × (bound k + c ≤ bound (suc k))) → (p : Path) (k t c : ℕ) → k ≤ m.stages → after m p k ≡ Some (t, c) → (t < m.states) × (c ≤ bound k)
unfolding after
cheap_by m bound start step p zero t c le h =
    let q = same_Some (m.start, 0) (t, c) h in
    let x : m.start ≡ t = ap (λ z. z.0) q in
    let y : 0 ≡ c = ap (λ z. z.1) q in
    (omega arith, omega arith)
cheap_by m bound start step p (suc k) t c le h =
    let r : Came m p k t c = came m p k t c h in
    let w = cheap_by m bound start step p k r.s r.d (omega arith) r.at in
    let b = step k r.s (p k) t r.e (omega arith) w.0 r.step in
    let sum = r.sum in
    (b.0, omega arith)
