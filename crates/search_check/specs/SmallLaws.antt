-- The small trellis keeps the laws.
-- Assumes nothing.
use Rattle.std.specs.Prelude.{◌≡◌, ℕ, zero, suc, ◌+◌, ◌*◌, ◌/◌, ◌%◌, ◌<◌, ◌≤◌, Bool, true, false, cond, ◌&&◌, ◌⊎◌, Some, None, Option, ◌==◌, refl}
use Rattle.std.proofs.Common.{sym, ap, subst, ◌∙◌, inl, inr, ⊎_elim, arith, eq-or-lt_of_le, ltb-true, lt-ltb, eqb-true, eq-eqb, ne_eqb}
use Rattle.std.proofs.lemmas.Bool.{cases_lt, eqb-false}
use Rattle.paths.specs.Model.{Model, Lawful}
use Rattle.paths.specs.Registers.{digit, open_if}
use Rattle.std.proofs.lemmas.Option.{same_Some}
use Rattle.paths.proofs.Paths.{cheap_by}
use Rattle.paths.proofs.Registers.{opened, is_open, digit_low}
use Rattle.search_check.specs.Small.{Cells, Cheap, cell, lead, toll, leads, count, find, as_entry, free, small}

both_are : (a b : Bool) → (a && b) ≡ true → (a ≡ true) × (b ≡ true)
both_are true b e = (refl, e)
both_are false b e = let z : ◌≡◌ {A = ℕ} 0 1 = ap (λ x. cond x 1 0) e in absurd (omega arith)

pub are_both : (a b : Bool) → a ≡ true → b ≡ true → (a && b) ≡ true
are_both a b x y = ap (λ z. z && b) x ∙ y

-- ---- counts rise
count_more : (cells : Cells) (k t j : ℕ) → leads cells k t j ≡ true → count cells k t (suc j) ≡ suc (count cells k t j)
unfolding count
count_more cells k t j e = let d : digit (leads cells k t j) ≡ 1 = ap digit e in omega arith

count_up : (cells : Cells) (k t j : ℕ) → count cells k t j ≤ count cells k t (suc j)
unfolding count
count_up cells k t j = omega arith

count_mono : (cells : Cells) (k t i j : ℕ) → i ≤ j → count cells k t i ≤ count cells k t j
count_mono cells k t i zero h = let e : i ≡ 0 = omega arith in subst (λ n. count cells k t n ≤ count cells k t 0) (sym e) (omega arith)
count_mono cells k t i (suc j) h =
    ⊎_elim
    (λ e. subst (λ n. count cells k t i ≤ count cells k t n) e (omega arith))
    (λ l. let a = count_mono cells k t i j (omega arith) in let b = count_up cells k t j in omega arith)
    (eq-or-lt_of_le h)

-- ---- what is found
pub record At (cells : Cells) (k t i n j : ℕ) : Type 0 where
  pub low : j < n
  pub there : leads cells k t j ≡ true
  pub nth : count cells k t j ≡ i

pub find_sound : (cells : Cells) (k t i n j : ℕ) → find cells k t i n ≡ Some j → At cells k t i n j
unfolding find
find_sound cells k t i zero j e = let z : ◌≡◌ {A = ℕ} 0 1 = cc in absurd (omega arith)
find_sound cells k t i (suc n) j e = by (find_sound cells k t i n j) (leads cells k t n && count cells k t n == i) refl e
  where
    by : (find cells k t i n ≡ Some j → At cells k t i n j) → (b : Bool) → (leads cells k t n && count cells k t n == i) ≡ b → cond b (Some n) (find cells k t i n) ≡ Some j → At cells k t i (suc n) j
    by ih true q h =
        let s : n ≡ j = same_Some n j h in
        let w = both_are _ _ q in
        subst (λ x. At cells k t i (suc n) x) s (record { low = omega arith; there = w.0; nth = eqb-true _ _ w.1 })
    by ih false q h = let r = ih h in record { low = (let l = r.low in omega arith); there = r.there; nth = r.nth }

pub find_complete : (cells : Cells) (k t i n j : ℕ) → At cells k t i n j → find cells k t i n ≡ Some j
unfolding find
find_complete cells k t i zero j a = let l = a.low in absurd (omega arith)
find_complete cells k t i (suc n) j a =
    let l = a.low in
    ⊎_elim
    (λ e. ap (λ b. cond b (Some n) (find cells k t i n)) (are_both _ _ (subst (λ x. leads cells k t x ≡ true) e a.there) (eq-eqb _ _ (subst (λ x. count cells k t x ≡ i) e a.nth))) ∙ ap (λ x. Some x) (sym e))
    (λ less. by (find_complete cells k t i n j) less (leads cells k t n && count cells k t n == i) refl)
    (eq-or-lt_of_le {n = j} {m = n} (omega arith))
  where
    by : (At cells k t i n j → find cells k t i n ≡ Some j) → j < n → (b : Bool) → (leads cells k t n && count cells k t n == i) ≡ b → cond b (Some n) (find cells k t i n) ≡ Some j
    by ih less false q = ih (record { low = less; there = a.there; nth = a.nth })
    by ih less true q =
        let x : count cells k t n ≡ i = eqb-true _ _ (both_are _ _ q).1 in
        let y = count_more cells k t j a.there in
        let z = count_mono cells k t (suc j) n (omega arith) in
        let v = a.nth in
        absurd (omega arith)

odd_digit : (j : ℕ) → digit (j % 2 == 1) ≡ j % 2
odd_digit j = by (j % 2 == 1) refl
  where
    by : (b : Bool) → (j % 2 == 1) ≡ b → digit b ≡ j % 2
    by true e = sym (eqb-true (j % 2) 1 e)
    by false e = let n = eqb-false (j % 2) 1 e in omega arith

-- the branch that an index stands for
halves : (j : ℕ) → 2 * (j / 2) + digit (j % 2 == 1) ≡ j
halves j = let d = odd_digit j in omega arith

odd_of : (s : ℕ) (b : Bool) → ((2 * s + digit b) % 2 == 1) ≡ b
odd_of s true = eq-eqb _ _ (omega arith)
odd_of s false = ne_eqb _ _ (λ q. omega arith)

half_of : (s : ℕ) (b : Bool) → (2 * s + digit b) / 2 ≡ s
half_of s b = let d = digit_low b in omega arith

module _ (stages n start ends : ℕ) (cells : Cells) (wanted narrow : Bool) (short : stages ≤ 8) (few : n ≤ 8) (inside : start < n) (cheap : Cheap cells) where
  abbrev model : Model
  model = small stages n start ends cells wanted narrow

  -- an open branch
  record Opened (k j t c : ℕ) : Type 0 where
    there : leads cells k t j ≡ true
    low : t < n
    under : count cells k t j < 2
    cost : toll (cell cells k j) ≡ c

  opened_at : (k j t c : ℕ) → open_if {X = ℕ × ℕ} (free cells n k j) (lead (cell cells k j), toll (cell cells k j)) ≡ Some (t, c) → Opened k j t c
  opened_at k j t c e =
      let o = opened _ _ (t, c) e in
      let et : lead (cell cells k j) ≡ t = ap (λ z. z.0) o.1 in
      let ec : toll (cell cells k j) ≡ c = ap (λ z. z.1) o.1 in
      let a = both_are _ _ o.0 in
      let b = both_are _ _ a.1 in
      record {
        there = are_both _ _ a.0 (eq-eqb _ _ et);
        low = subst (λ x. x < n) et (ltb-true _ _ b.0);
        under = subst (λ x. count cells k x j < 2) et (ltb-true _ _ b.1);
        cost = ec;
      }

  open_at : (k j t : ℕ) → leads cells k t j ≡ true → t < n → count cells k t j < 2 → open_if {X = ℕ × ℕ} (free cells n k j) (lead (cell cells k j), toll (cell cells k j)) ≡ Some (t, toll (cell cells k j))
  open_at k j t e low under =
      let a = both_are _ _ e in
      let et : lead (cell cells k j) ≡ t = eqb-true _ _ a.1 in
      is_open _ _ (are_both _ _ a.0 (are_both _ _ (lt-ltb _ _ (subst (λ x. x < n) (sym et) low)) (lt-ltb _ _ (subst (λ x. count cells k x j < 2) (sym et) under))))
      ∙ ap (λ x. Some (x, toll (cell cells k j))) et

  entry_at : (k t : ℕ) (o : Option ℕ) (s : ℕ) (b : Bool) (c : ℕ) → as_entry cells k o ≡ Some (s, b, c) → (j : ℕ) × (o ≡ Some j) × (j / 2 ≡ s) × ((j % 2 == 1) ≡ b) × (toll (cell cells k j) ≡ c)
  entry_at k t None s b c e = let z : ◌≡◌ {A = ℕ} 0 1 = cc in absurd (omega arith)
  entry_at k t (Some j) s b c e =
      let q = same_Some (j / 2, (j % 2 == 1), toll (cell cells k j)) (s, b, c) e in
      (j, refl, ap (λ z. z.0) q, ap (λ z. z.1) q, ap (λ z. z.2) q)

  sound : (k t : ℕ) (i : Bool) (s : ℕ) (b : Bool) (c : ℕ) → t < n → model.entry k t i ≡ Some (s, b, c) → (s < n) × (model.branch k s b ≡ Some (t, c))
  sound k t i s b c low e =
      let (j, f, es, eb, ec) = entry_at k t (find cells k t (digit i) (2 * n)) s b c e in
      let a = find_sound cells k t (digit i) (2 * n) j f in
      let l = a.low in
      let d = digit_low i in
      let h = a.nth in
      let is : 2 * s + digit b ≡ j = ap (λ x. 2 * x + digit b) (sym es) ∙ (ap (λ x. 2 * (j / 2) + digit x) (sym eb) ∙ halves j) in (
        omega arith,
        ap (λ x. open_if {X = ℕ × ℕ} (free cells n k x) (lead (cell cells k x), toll (cell cells k x))) is ∙ (open_at k j t a.there low (omega arith) ∙ ap (λ x. Some (t, x)) ec),
      )

  found : (k s : ℕ) (b : Bool) (t c : ℕ) (i : Bool) → s < n → Opened k (2 * s + digit b) t c → count cells k t (2 * s + digit b) ≡ digit i → model.entry k t i ≡ Some (s, b, c)
  found k s b t c i low o is =
      let d = digit_low b in
      let f = find_complete cells k t (digit i) (2 * n) (2 * s + digit b) (record { low = omega arith; there = o.there; nth = is }) in
      ap (as_entry cells k) f
      ∙ (ap (λ x. Some (x, ((2 * s + digit b) % 2 == 1), toll (cell cells k (2 * s + digit b)))) (half_of s b)
      ∙ (ap (λ x. Some (s, x, toll (cell cells k (2 * s + digit b)))) (odd_of s b)
      ∙ ap (λ x. Some (s, b, x)) o.cost))

  complete : (k s : ℕ) (b : Bool) (t c : ℕ) → s < n → model.branch k s b ≡ Some (t, c) → (model.entry k t false ≡ Some (s, b, c)) ⊎ (model.entry k t true ≡ Some (s, b, c))
  complete k s b t c low e =
      let o = opened_at k (2 * s + digit b) t c e in
      let u = o.under in
      ⊎_elim
      (λ z. inl (found k s b t c false low o (omega arith)))
      (λ z. inr (found k s b t c true low o (omega arith)))
      (cases_lt (count cells k t (2 * s + digit b)) 1)

  ordered : (k t s : ℕ) (b : Bool) (c s' : ℕ) (b' : Bool) (c' : ℕ) → model.entry k t false ≡ Some (s, b, c) → model.entry k t true ≡ Some (s', b', c') → (s < s') ⊎ ((s ≡ s') × (b ≡ false) × (b' ≡ true))
  ordered k t s b c s' b' c' e e' =
      let (j, f, es, eb, ec) = entry_at k t (find cells k t 0 (2 * n)) s b c e in
      let (j', f', es', eb', ec') = entry_at k t (find cells k t 1 (2 * n)) s' b' c' e' in
      let x = (find_sound cells k t 0 (2 * n) j f).nth in
      let y = (find_sound cells k t 1 (2 * n) j' f').nth in
      let less : j < j' = ⊎_elim (λ l. l) (λ l. let m = count_mono cells k t j' j l in absurd (omega arith)) (cases_lt j j') in
      ⊎_elim
      (λ l. inl (omega arith))
      (λ l. inr (omega arith, sym eb ∙ ne_eqb _ _ (λ q. omega arith), sym eb' ∙ eq-eqb _ _ (omega arith)))
      (cases_lt (j / 2) (j' / 2))

  bounded : (k s : ℕ) (b : Bool) (t c : ℕ) → model.branch k s b ≡ Some (t, c) → (t < n) × (c ≤ 15)
  bounded k s b t c e =
      let o = opened_at k (2 * s + digit b) t c e in
      let x = o.cost in
      let l = cheap k (2 * s + digit b) in
      (o.low, omega arith)

  pub small_lawful : Lawful model
  small_lawful = record {
    few_stages = omega arith;
    few_states = omega arith;
    start_within = inside;
    bounded = λ k s b t c early low e. let w = bounded k s b t c e in (w.0, omega arith);
    cheap = λ on p k t c le h.
        let paid = cheap_by model (λ k. 15 * k) inside (λ k s b t c early low e. let w = bounded k s b t c e in (w.0, omega arith)) p k t c le h in
        omega arith;
    wanted_few = λ on. omega arith;
    sound = λ on k t i s b c early. sound k t i s b c;
    complete = λ on k s b t c early. complete k s b t c;
    ordered = λ on k t s b c s' b' c' early low. ordered k t s b c s' b' c';
  }
