-- The entries of a lane: none where it is no state, and else the model's.
-- Assumes nothing.
use Rattle.std.proofs.Common.{◌≡◌, ℕ, ◌<◌, ◌≤◌, Bool, true, false, cond, ◌⊎◌, Some, None, sym, ap, ◌∙◌, inl, inr, ⊎_elim, arith, le-ltb, lt-ltb}
use Rattle.std.proofs.lemmas.Bool.{cases_lt}
use Rattle.paths.specs.Model.{Model, Lawful}
use Rattle.paths.proofs.Rows.{into}

-- a state's lane has the model's entries
pub into_is : (m : Model) (k t : ℕ) (i : Bool) → t < m.states → into m k t i ≡ m.entry k t i
unfolding into
into_is m k t i h = ap (λ z. cond z (m.entry k t i) None) (lt-ltb t m.states h)

-- a lane that is no state has none
pub into_none : (m : Model) (k t : ℕ) (i : Bool) → m.states ≤ t → into m k t i ≡ None
unfolding into
into_none m k t i h = ap (λ z. cond z (m.entry k t i) None) (le-ltb t m.states h)

-- a lane with an entry is a state
pub into_low : (m : Model) (k t : ℕ) (i : Bool) (e : ℕ × Bool × ℕ) → into m k t i ≡ Some e → t < m.states
into_low m k t i e h =
    ⊎_elim
    (λ l. l)
    (λ l. let n = into_none m k t i l in let z : ◌≡◌ {A = ℕ} 0 1 = cc in absurd (omega arith))
    (cases_lt t m.states)

module _ (m : Model) (law : Lawful m) (on : m.wanted ≡ true) (k : ℕ) (early : k < m.stages) where
  pub into_sound : (t : ℕ) (i : Bool) (s : ℕ) (b : Bool) (c : ℕ) → into m k t i ≡ Some (s, b, c) → (s < m.states) × (m.branch k s b ≡ Some (t, c))
  into_sound t i s b c e =
      let l = into_low m k t i (s, b, c) e in
      law.sound on k t i s b c early l (sym (into_is m k t i l) ∙ e)

  pub into_complete : (s : ℕ) (b : Bool) (t c : ℕ) → s < m.states → m.branch k s b ≡ Some (t, c) → (into m k t false ≡ Some (s, b, c)) ⊎ (into m k t true ≡ Some (s, b, c))
  into_complete s b t c few e =
      let w = law.bounded k s b t c early few e in
      ⊎_elim
      (λ h. inl (into_is m k t false w.0 ∙ h))
      (λ h. inr (into_is m k t true w.0 ∙ h))
      (law.complete on k s b t c early few e)

  pub into_ordered : (t s : ℕ) (b : Bool) (c s' : ℕ) (b' : Bool) (c' : ℕ) → into m k t false ≡ Some (s, b, c) → into m k t true ≡ Some (s', b', c') → (s < s') ⊎ ((s ≡ s') × (b ≡ false) × (b' ≡ true))
  into_ordered t s b c s' b' c' e e' =
      let l = into_low m k t false (s, b, c) e in
      law.ordered on k t s b c s' b' c' early l (sym (into_is m k t false l) ∙ e) (sym (into_is m k t true l) ∙ e')
