-- Rows of lanes as rows of costs.
-- Assumes nothing.
use Rattle.std.proofs.Common.{◌≡◌, ℕ, zero, suc, ◌+◌, ◌*◌, ◌<◌, ◌≤◌, min, Bool, true, false, cond, ltb, ◌≢◌, List, [], ◌∷◌, length, get_or, set, sym, refl, ap, ◌∙◌, subst, ⊎_elim, eq-or-lt_of_le, arith, length-set, le-ltb, lt-ltb}
use Rattle.std.proofs.lemmas.Bool.{cases_lt}
use Rattle.paths.specs.Model.{Model}
use Rattle.paths.proofs.Rows.{into, via, Alike, Candidates, Selected, Relaxed}
use Rattle.paths.proofs.Lanes.{wide, values, capped_min, Lanes, Chunk}

pub wide_low : (x : ℕ) → x < 65535 → wide x ≡ x
wide_low x h = ap (λ z. cond z x 536870912) (lt-ltb x 65535 h)

pub wide_top : (x : ℕ) → 65535 ≤ x → wide x ≡ 536870912
wide_top x h = ap (λ z. cond z x 536870912) (le-ltb x 65535 h)

pub wide_capped : (x : ℕ) → wide x ≤ 536870912
wide_capped x =
    ⊎_elim
    (λ l. let e = wide_low x l in omega arith)
    (λ l. let e = wide_top x l in omega arith)
    (cases_lt x 65535)

pub wide_min : (x y : ℕ) → wide (min x y) ≡ min (wide x) (wide y)
wide_min x y =
    ⊎_elim
    (λ l. let e = wide_low x l in
    ⊎_elim
    (λ r. let f = wide_low y r in wide_low (min x y) (omega arith) ∙ omega arith)
    (λ r. let f = wide_top y r in wide_low (min x y) (omega arith) ∙ omega arith)
    (cases_lt y 65535))
    (λ l. let e = wide_top x l in
    ⊎_elim
    (λ r. let f = wide_low y r in wide_low (min x y) (omega arith) ∙ omega arith)
    (λ r. let f = wide_top y r in wide_top (min x y) (omega arith) ∙ omega arith)
    (cases_lt y 65535))
    (cases_lt x 65535)

-- where the less of two is open, they compare alike
pub wide_ltb : (x y : ℕ) → wide (min x y) < 536870912 → ltb y x ≡ ltb (wide y) (wide x)
wide_ltb x y h =
    ⊎_elim
    (λ l.
    ⊎_elim
    (λ c. let f = wide_low (min x y) c in let g = wide_low y (omega arith) in
    lt-ltb y x l ∙ sym (lt-ltb (wide y) (wide x) (⊎_elim (λ a. let e = wide_low x a in omega arith) (λ a. let e = wide_top x a in omega arith) (cases_lt x 65535))))
    (λ c. let f = wide_top (min x y) c in absurd (omega arith))
    (cases_lt (min x y) 65535))
    (λ l.
    ⊎_elim
    (λ c. let f = wide_low (min x y) c in let g = wide_low x (omega arith) in
    le-ltb y x l ∙ sym (le-ltb (wide y) (wide x) (⊎_elim (λ a. let e = wide_low y a in omega arith) (λ a. let e = wide_top y a in omega arith) (cases_lt y 65535))))
    (λ c. let f = wide_top (min x y) c in absurd (omega arith))
    (cases_lt (min x y) 65535))
    (cases_lt y x)

pub get_or_values : {X : Type 0} (up : X → ℕ) (xs : List X) (i : ℕ) (d : X) → i < length xs → get_or (values up xs) i 0 ≡ up (get_or xs i d)
unfolding values
get_or_values up [] i d h = absurd (omega arith)
get_or_values up (x ∷ xs) zero d h = refl
get_or_values up (x ∷ xs) (suc i) d h = get_or_values up xs i d (omega arith)

pub values_same : {X : Type 0} (up : X → ℕ) (xs : List X) (t : ℕ) (x : X) → t < length xs → get_or (values up (set xs t x)) t 0 ≡ up x
unfolding values
values_same up [] t x h = absurd (omega arith)
values_same up (y ∷ xs) zero x h = refl
values_same up (y ∷ xs) (suc t) x h = values_same up xs t x (omega arith)

pub values_other : {X : Type 0} (up : X → ℕ) (xs : List X) (t j : ℕ) (x : X) → j ≢ t → get_or (values up (set xs t x)) j 0 ≡ get_or (values up xs) j 0
unfolding values
values_other up [] t j x ne = refl
values_other up (y ∷ xs) zero zero x ne = absurd (ne refl)
values_other up (y ∷ xs) zero (suc j) x ne = refl
values_other up (y ∷ xs) (suc t) zero x ne = refl
values_other up (y ∷ xs) (suc t) (suc j) x ne = values_other up xs t j x (λ q. ne (ap suc q))

-- where zero stands for zero, it holds past the end too
pub get_or_values0 : (up : ℕ → ℕ) → up 0 ≡ 0 → (xs : List ℕ) (i : ℕ) → get_or (values up xs) i 0 ≡ up (get_or xs i 0)
unfolding values
get_or_values0 up z [] i = sym z
get_or_values0 up z (x ∷ xs) zero = refl
get_or_values0 up z (x ∷ xs) (suc i) = get_or_values0 up z xs i

-- ---- lanes of both widths as costs
same2 : (f : ℕ → ℕ → Bool) (x y u v : ℕ) → x ≡ u → y ≡ v → f x y ≡ f u v
same2 f x y u v p q = ap (λ z. f z y) p ∙ ap (λ z. f u z) q

pub narrow_chunk : (a b old new : List ℕ) (mask at : ℕ) → Lanes min a b old new mask at → Chunk (values wide a) (values wide b) (values wide old) (values wide new) mask at
narrow_chunk a b old new mask at s = record {
  costs = λ j h.
      let g = get_or_values0 wide refl new (at + j) in
      let x = get_or_values0 wide refl a (at + j) in
      let y = get_or_values0 wide refl b (at + j) in
      let c : wide (get_or new (at + j) 0) ≡ wide (min (get_or a (at + j) 0) (get_or b (at + j) 0)) = ap wide (s.costs j h) in
      let w = wide_min (get_or a (at + j) 0) (get_or b (at + j) 0) in
      let p = wide_capped (get_or a (at + j) 0) in
      let q = wide_capped (get_or b (at + j) 0) in
      omega arith;
  below = λ t h. get_or_values0 wide refl new t ∙ (ap wide (s.below t h) ∙ sym (get_or_values0 wide refl old t));
  picks = (
    s.marks.0,
    s.marks.1,
    s.marks.2,
    λ j h came.
        let g = get_or_values0 wide refl new (at + j) in
        let c : wide (get_or new (at + j) 0) ≡ wide (min (get_or a (at + j) 0) (get_or b (at + j) 0)) = ap wide (s.costs j h) in
        s.marks.3 j h ∙ (◌∙◌ {b = ltb (wide (get_or b (at + j) 0)) (wide (get_or a (at + j) 0))} (wide_ltb (get_or a (at + j) 0) (get_or b (at + j) 0) (omega arith)) (same2 ltb _ _ _ _ (sym (get_or_values0 wide refl b (at + j))) (sym (get_or_values0 wide refl a (at + j))))),
  );
}

pub wide_chunk : (a b old new : List ℕ) (mask at : ℕ) → Lanes capped_min a b old new mask at → Chunk (values (λ (x : ℕ). x) a) (values (λ (x : ℕ). x) b) (values (λ (x : ℕ). x) old) (values (λ (x : ℕ). x) new) mask at
wide_chunk a b old new mask at s = record {
  costs = λ j h.
      let g = get_or_values0 (λ x. x) refl new (at + j) in
      let x = get_or_values0 (λ x. x) refl a (at + j) in
      let y = get_or_values0 (λ x. x) refl b (at + j) in
      let c = s.costs j h in
      omega arith;
  below = λ t h. get_or_values0 (λ x. x) refl new t ∙ (s.below t h ∙ sym (get_or_values0 (λ x. x) refl old t));
  picks = (s.marks.0, s.marks.1, s.marks.2, λ j h came. s.marks.3 j h ∙ same2 ltb _ _ _ _ (sym (get_or_values0 (λ x. x) refl b (at + j))) (sym (get_or_values0 (λ x. x) refl a (at + j))));
}

-- ---- candidates, one lane after the other
pub candidates_more : {X : Type 0} (up : X → ℕ) (m : Model) (k : ℕ) (i : Bool) (row : List ℕ) (a : List X) (t : ℕ) (x : X) → t < length a → Candidates m k i row (values up a) t → Alike (up x) (via row (into m k t i)) → Candidates m k i row (values up (set a t x)) (t + 1)
candidates_more up m k i row a t x lt old here j h =
    ⊎_elim
    (λ e. subst (λ n. Alike (get_or (values up (set a t x)) n 0) (via row (into m k n i))) (sym e) (subst (λ n. Alike n (via row (into m k t i))) (sym (values_same up a t x lt)) here))
    (λ l. let ne : j ≢ t = λ q. omega arith in subst (λ n. Alike n (via row (into m k j i))) (sym (values_other up a t j x ne)) (old j l))
    (eq-or-lt_of_le {n = j} {m = t} (omega arith))

-- two lanes more
pub candidates_two : {X : Type 0} (up : X → ℕ) (m : Model) (k : ℕ) (i : Bool) (row : List ℕ) (a : List X) (h : ℕ) (x y : X) → 2 * h + 1 < length a → Candidates m k i row (values up a) (2 * h) → Alike (up x) (via row (into m k (2 * h) i)) → Alike (up y) (via row (into m k (2 * h + 1) i)) → Candidates m k i row (values up (set (set a (2 * h) x) (2 * h + 1) y)) (2 * (h + 1))
candidates_two up m k i row a h x y lt old even odd =
    let e : 2 * h + 1 + 1 ≡ 2 * (h + 1) = omega arith in
    let l = length-set a (2 * h) x in
    subst (λ n. Candidates m k i row (values up (set (set a (2 * h) x) (2 * h + 1) y)) n) e
    (candidates_more up m k i row (set a (2 * h) x) (2 * h + 1) y (omega arith) (candidates_more up m k i row a (2 * h) x (omega arith) old even) odd)

-- ---- one stage
pub relaxed : (m : Model) (k : ℕ) (row a b next : List ℕ) (word : ℕ) → Candidates m k false row a 64 → Candidates m k true row b 64 → Selected a b next word → Relaxed m k row next word
relaxed m k row a b next word ua ub s =
    let costs : (t : ℕ) → t < 64 → get_or next t 0 ≡ min (min (via row (into m k t false)) (via row (into m k t true))) 536870912 = λ t h.
    s.costs t h ∙ (min_cap (get_or a t 0) (get_or b t 0) ∙ (ap (λ z. min z (min (get_or b t 0) 536870912)) (ua t h) ∙ (ap (λ z. min (min (via row (into m k t false)) 536870912) z) (ub t h) ∙ sym (min_cap (via row (into m k t false)) (via row (into m k t true)))))) in
    record {
      costs = costs;
      choice = λ t h lt. s.choice t h lt ∙ ap (λ z. cond z 1 0) (same_ltb (get_or a t 0) (get_or b t 0) (via row (into m k t false)) (via row (into m k t true)) (ua t h) (ub t h) (let z = costs t h in omega arith));
    }
  where
    min_cap : (x y : ℕ) → min (min x y) 536870912 ≡ min (min x 536870912) (min y 536870912)
    min_cap x y = omega arith

    same_ltb : (x y u v : ℕ) → Alike x u → Alike y v → min u v < 536870912 → ltb y x ≡ ltb v u
    same_ltb x y u v p q l =
        ⊎_elim
        (λ h. lt-ltb y x h ∙ sym (lt-ltb v u (omega arith)))
        (λ h. le-ltb y x h ∙ sym (le-ltb v u (omega arith)))
        (cases_lt y x)
