-- One stage of the search keeps the rows best.
-- Assumes nothing.
use Rattle.std.proofs.Common.{◌≡◌, ℕ, suc, ◌+◌, ◌/◌, ◌%◌, ◌^◌, ◌<◌, ◌≤◌, min, Bool, true, false, cond, eqb, ltb, ◌⊎◌, List, get_or, Some, None, Option, sym, refl, ap, ◌∙◌, subst, inl, inr, ⊎_elim, arith, ltb-false, ltb-true, le-ltb, lt-ltb}
use Rattle.std.proofs.lemmas.Bool.{cases_lt}
use Rattle.paths.specs.Model.{Model, Lawful, Path, after}
use Rattle.paths.specs.Ties.{state_of, First}
use Rattle.paths.proofs.Rows.{into, via, Relaxed, chosen, follow, Onto, Best, Rowed}
use Rattle.paths.proofs.Paths.{upd, Came, came, after_on, after_within, first_on, first_lower}
use Rattle.paths.proofs.Entries.{into_sound, into_complete, into_ordered}

chosen_is : (n : ℕ) (i : Bool) → n ≡ cond i 1 0 → eqb n 1 ≡ i
chosen_is n true e = ap (λ z. eqb z 1) e
chosen_is n false e = ap (λ z. eqb z 1) e

module _ (m : Model) (law : Lawful m) (on : m.wanted ≡ true) (k : ℕ) (early : k < m.stages) (row : List ℕ) (f : ℕ → Path) (rows : Rowed m k row f) where
  -- by an open entry
  met_by : (t : ℕ) (i : Bool) (o : Option (ℕ × Bool × ℕ)) → into m k t i ≡ o → via row o < 536870912 → after m (follow o k f) (suc k) ≡ Some (t, via row o)
  met_by t i None e h = absurd (omega arith)
  met_by t i (Some x) e h =
      let s = into_sound m law on k early t i x.0 x.1 x.2 e in
      let few = law.wanted_few on in
      let best = rows x.0 (omega arith) in
      after_on m (f x.0) k x.0 (get_or row x.0 0) t x.2 x.1 (best.met (omega arith)) s.1

  -- by which entry a path came
  record Hit (v : Path) (t c : ℕ) : Type 0 where
    i : Bool
    s : ℕ
    d : ℕ
    e : ℕ
    at : after m v k ≡ Some (s, d)
    entry : into m k t i ≡ Some (s, v k, e)
    sum : c ≡ d + e
    cost : via row (into m k t i) ≡ get_or row s 0 + e
    low : get_or row s 0 ≤ d
    few : s < 64

  hit : (v : Path) (t c : ℕ) → after m v (suc k) ≡ Some (t, c) → Hit v t c
  hit v t c h =
      let r : Came m v k t c = came m v k t c h in
      let w : r.s < m.states = after_within m law v k r.s r.d (omega arith) r.at in
      let few : r.s < 64 = (let q = law.wanted_few on in omega arith) in
      let low : get_or row r.s 0 ≤ r.d = (rows r.s few).lower v r.d r.at in
      let make : (i : Bool) → into m k t i ≡ Some (r.s, v k, r.e) → Hit v t c = λ i q. record { i = i; s = r.s; d = r.d; e = r.e; at = r.at; entry = q; sum = r.sum; cost = ap (via row) q; low = low; few = few } in
      ⊎_elim (make false) (make true) (into_complete m law on k early r.s (v k) t r.e w r.step)

  -- the path by the chosen entry is first among those that cost the same
  same_entry : (v : Path) (t x : ℕ) (i : Bool) (s e d : ℕ) (b : Bool) → into m k t i ≡ Some (s, b, e) → s < 64 → via row (into m k t i) ≡ x → x < 536870912 → after m v k ≡ Some (s, d) → d ≡ get_or row s 0 → after m v (suc k) ≡ Some (t, x) → (b ≡ v k) ⊎ ((b ≡ false) × (v k ≡ true)) → First m (follow (into m k t i) k f) v (suc k)
  same_entry v t x i s e d b q few is lt at de end o =
      let cost : get_or row s 0 + e ≡ x = sym (ap (via row) q) ∙ is in
      let best = rows s few in
      let first : First m (f s) v k = best.first (omega arith) v (at ∙ ap (λ n. Some (s, n)) de) in
      let own : after m (follow (into m k t i) k f) (suc k) ≡ Some (t, via row (into m k t i)) = met_by t i (into m k t i) refl (omega arith) in
      let own' : state_of (after m (upd (f s) k b) (suc k)) ≡ t = ap state_of (ap (λ z. after m (follow z k f) (suc k)) (sym q) ∙ own) in
      subst (λ z. First m (follow z k f) v (suc k)) (sym q) (first_on m (f s) v k b first (own' ∙ sym (ap state_of end)) o)

  lower_entry : (v : Path) (t x : ℕ) (i : Bool) (s e s' d : ℕ) (b : Bool) → into m k t i ≡ Some (s, b, e) → s < 64 → via row (into m k t i) ≡ x → x < 536870912 → after m v k ≡ Some (s', d) → s < s' → after m v (suc k) ≡ Some (t, x) → First m (follow (into m k t i) k f) v (suc k)
  lower_entry v t x i s e s' d b q few is lt at less end =
      let cost : get_or row s 0 + e ≡ x = sym (ap (via row) q) ∙ is in
      let best = rows s few in
      let mine : state_of (after m (f s) k) ≡ s = ap state_of (best.met (omega arith)) in
      let yours : state_of (after m v k) ≡ s' = ap state_of at in
      let own : after m (follow (into m k t i) k f) (suc k) ≡ Some (t, via row (into m k t i)) = met_by t i (into m k t i) refl (omega arith) in
      let own' : state_of (after m (upd (f s) k b) (suc k)) ≡ t = ap state_of (ap (λ z. after m (follow z k f) (suc k)) (sym q) ∙ own) in
      subst (λ z. First m (follow z k f) v (suc k)) (sym q) (first_lower m (f s) v k b (omega arith) (own' ∙ sym (ap state_of end)))

  -- an open entry is there
  open_at : (t : ℕ) (i : Bool) (o : Option (ℕ × Bool × ℕ)) → into m k t i ≡ o → via row o < 536870912 → (x : ℕ × Bool × ℕ) × (into m k t i ≡ Some x) × (x.0 < 64)
  open_at t i None e h = absurd (omega arith)
  open_at t i (Some x) e h =
      let s = into_sound m law on k early t i x.0 x.1 x.2 e in
      let few = law.wanted_few on in
      (x, e, omega arith)

  first_false : (v : Path) (t x : ℕ) → via row (into m k t false) ≡ x → x ≤ via row (into m k t true) → x < 536870912 → after m v (suc k) ≡ Some (t, x) → (i : Bool) (s d e : ℕ) → after m v k ≡ Some (s, d) → into m k t i ≡ Some (s, v k, e) → x ≡ d + e → get_or row s 0 ≤ d → s < 64 → First m (follow (into m k t false) k f) v (suc k)
  first_false v t x is le lt end false s d e at q sum low few =
      let cost : via row (into m k t false) ≡ get_or row s 0 + e = ap (via row) q in
      same_entry v t x false s e d (v k) q few is lt at (omega arith) end (inl refl)
  first_false v t x is le lt end true s d e at q sum low few =
      let cost : via row (into m k t true) ≡ get_or row s 0 + e = ap (via row) q in
      let y = open_at t false (into m k t false) refl (omega arith) in
      ⊎_elim
      (λ less. lower_entry v t x false y.0.0 y.0.2 s d y.0.1 y.1 y.2 is lt at less end)
      (λ z. same_entry v t x false y.0.0 y.0.2 d y.0.1 y.1 y.2 is lt (at ∙ ap (λ n. Some (n, d)) (sym z.0)) (let same : get_or row y.0.0 0 ≡ get_or row s 0 = ap (λ n. get_or row n 0) z.0 in omega arith) end (inr (z.1, z.2)))
      (into_ordered m law on k early t y.0.0 y.0.1 y.0.2 s (v k) e y.1 q)

  first_true : (v : Path) (t x : ℕ) → via row (into m k t true) ≡ x → x < via row (into m k t false) → x < 536870912 → after m v (suc k) ≡ Some (t, x) → (i : Bool) (s d e : ℕ) → after m v k ≡ Some (s, d) → into m k t i ≡ Some (s, v k, e) → x ≡ d + e → get_or row s 0 ≤ d → s < 64 → First m (follow (into m k t true) k f) v (suc k)
  first_true v t x is le lt end true s d e at q sum low few =
      let cost : via row (into m k t true) ≡ get_or row s 0 + e = ap (via row) q in
      same_entry v t x true s e d (v k) q few is lt at (omega arith) end (inl refl)
  first_true v t x is le lt end false s d e at q sum low few =
      let cost : via row (into m k t false) ≡ get_or row s 0 + e = ap (via row) q in
      absurd (omega arith)

  lower_by : (t x : ℕ) → x ≤ via row (into m k t false) → x ≤ via row (into m k t true) → (v : Path) (c : ℕ) (i : Bool) (s d e : ℕ) → into m k t i ≡ Some (s, v k, e) → c ≡ d + e → get_or row s 0 ≤ d → x ≤ c
  lower_by t x a b v c false s d e q sum low = let cost : via row (into m k t false) ≡ get_or row s 0 + e = ap (via row) q in omega arith
  lower_by t x a b v c true s d e q sum low = let cost : via row (into m k t true) ≡ get_or row s 0 + e = ap (via row) q in omega arith

  best_false : (t x : ℕ) → x ≡ min (min (via row (into m k t false)) (via row (into m k t true))) 536870912 → via row (into m k t false) ≤ via row (into m k t true) → Best m (suc k) t x (follow (into m k t false) k f)
  best_false t x is le = record {
    lower = λ v c h. let r = hit v t c h in lower_by t x (omega arith) (omega arith) v c r.i r.s r.d r.e r.entry r.sum r.low;
    met = λ lt. let e : via row (into m k t false) ≡ x = omega arith in met_by t false (into m k t false) refl (omega arith) ∙ ap (λ n. Some (t, n)) e;
    first = λ lt v h. let r = hit v t x h in first_false v t x (omega arith) (omega arith) lt h r.i r.s r.d r.e r.at r.entry r.sum r.low r.few;
    capped = omega arith;
  }

  best_true : (t x : ℕ) → x ≡ min (min (via row (into m k t false)) (via row (into m k t true))) 536870912 → via row (into m k t true) < via row (into m k t false) → Best m (suc k) t x (follow (into m k t true) k f)
  best_true t x is less = record {
    lower = λ v c h. let r = hit v t c h in lower_by t x (omega arith) (omega arith) v c r.i r.s r.d r.e r.entry r.sum r.low;
    met = λ lt. let e : via row (into m k t true) ≡ x = omega arith in met_by t true (into m k t true) refl (omega arith) ∙ ap (λ n. Some (t, n)) e;
    first = λ lt v h. let r = hit v t x h in first_true v t x (omega arith) (omega arith) lt h r.i r.s r.d r.e r.at r.entry r.sum r.low r.few;
    capped = omega arith;
  }

  -- where there is no open path, any path will do
  best_none : (t x : ℕ) (w u : Path) → 536870912 ≤ x → Best m (suc k) t x w → Best m (suc k) t x u
  best_none t x w u le b = record {
    lower = b.lower;
    met = λ lt. absurd (omega arith);
    first = λ lt. absurd (omega arith);
    capped = b.capped;
  }

  best_at : (next : List ℕ) (word : ℕ) → Relaxed m k row next word → (t : ℕ) → t < 64 → (i : Bool) → (get_or next t 0 < 536870912 → ltb (via row (into m k t true)) (via row (into m k t false)) ≡ i) → Best m (suc k) t (get_or next t 0) (follow (into m k t i) k f) → Best m (suc k) t (get_or next t 0) (follow (into m k t (chosen word t)) k f)
  best_at next word rel t few i is b =
      ⊎_elim
      (λ lt. let e : chosen word t ≡ i = chosen_is (word / 2 ^ t % 2) i (rel.choice t few lt ∙ ap (λ z. cond z 1 0) (is lt)) in subst (λ z. Best m (suc k) t (get_or next t 0) (follow (into m k t z) k f)) (sym e) b)
      (λ le. best_none t (get_or next t 0) _ _ le b)
      (cases_lt (get_or next t 0) 536870912)

  pub best_step : (next : List ℕ) (word : ℕ) → Relaxed m k row next word → (t : ℕ) → t < 64 → Best m (suc k) t (get_or next t 0) (follow (into m k t (chosen word t)) k f)
  best_step next word rel t few =
      ⊎_elim
      (λ less. best_at next word rel t few true (λ lt. lt-ltb _ _ less) (best_true t _ (rel.costs t few) less))
      (λ le. best_at next word rel t few false (λ lt. le-ltb _ _ le) (best_false t _ (rel.costs t few) le))
      (cases_lt (via row (into m k t true)) (via row (into m k t false)))

  -- an open entry is followed
  some_by : (t : ℕ) (P : ℕ → Type 0) → ((s : ℕ) → s < 64 → get_or row s 0 < 536870912 → P s) → (i : Bool) (o : Option (ℕ × Bool × ℕ)) → into m k t i ≡ o → via row o < 536870912 → Onto o P
  some_by t P p i None e h = absurd (omega arith)
  some_by t P p i (Some x) e h =
      let s = into_sound m law on k early t i x.0 x.1 x.2 e in
      let few = law.wanted_few on in
      p x.0 (omega arith) (omega arith)

  open_by : (t : ℕ) (i : Bool) (x : ℕ) → x ≡ min (min (via row (into m k t false)) (via row (into m k t true))) 536870912 → ltb (via row (into m k t true)) (via row (into m k t false)) ≡ i → x < 536870912 → via row (into m k t i) < 536870912
  open_by t true x is e lt = let h = ltb-true _ _ e in omega arith
  open_by t false x is e lt = let h = ltb-false _ _ e in omega arith

  pub open_step : (next : List ℕ) (word : ℕ) → Relaxed m k row next word → (P : ℕ → Type 0) → ((s : ℕ) → s < 64 → get_or row s 0 < 536870912 → P s) → (t : ℕ) → t < 64 → get_or next t 0 < 536870912 → Onto (into m k t (chosen word t)) P
  open_step next word rel P p t few lt =
      let i = ltb (via row (into m k t true)) (via row (into m k t false)) in
      let e : chosen word t ≡ i = chosen_is (word / 2 ^ t % 2) i (rel.choice t few lt) in
      subst (λ z. Onto (into m k t z) P) (sym e) (some_by t P p i (into m k t i) refl (open_by t i _ (rel.costs t few) refl lt))
