-- Branches followed one by one, where no path is wanted.
-- Assumes nothing.
use Rattle.std.proofs.Common.{◌≡◌, ℕ, ◌+◌, ◌*◌, ◌<◌, ◌≤◌, min, Bool, true, false, ◌≢◌, List, length, get_or, set, Some, Option, sym, refl, ap, ◌∙◌, subst, ⊎_elim, eq-or-lt_of_le, add-one, arith, get_or-set_other, get_or-set_same}
use Rattle.std.proofs.lemmas.Bool.{cases_order, cases_lt}
use Rattle.std.proofs.lemmas.List.{set-get_or}
use Rattle.paths.specs.Model.{Model, Lawful}
use Rattle.paths.proofs.Pushed.{turn, Source, Partly, Leasts}
use Rattle.std.proofs.lemmas.Option.{same_Some}
use Rattle.paths.proofs.Paths.{upd, Came, came, after_on, after_within}

turn_inj : (s s' : ℕ) (b b' : Bool) → turn s' b' ≡ turn s b → (s' ≡ s) × (b' ≡ b)
turn_inj s s' true true e = (omega arith, refl)
turn_inj s s' false false e = (omega arith, refl)
turn_inj s s' true false e = absurd (omega arith)
turn_inj s s' false true e = absurd (omega arith)

-- the branch at hand, or one before it
lower_more : (m : Model) (k : ℕ) (row next : List ℕ) (s : ℕ) (b : Bool) → ((t c : ℕ) → m.branch k s b ≡ Some (t, c) → get_or next t 0 ≤ get_or row s 0 + c) → ((s' : ℕ) (b' : Bool) (t c : ℕ) → turn s' b' < turn s b → m.branch k s' b' ≡ Some (t, c) → get_or next t 0 ≤ get_or row s' 0 + c) → (s' : ℕ) (b' : Bool) (t c : ℕ) → turn s' b' < turn s b + 1 → m.branch k s' b' ≡ Some (t, c) → get_or next t 0 ≤ get_or row s' 0 + c
lower_more m k row next s b here old s' b' t c h e =
    ⊎_elim
    (λ q.
    let i = turn_inj s s' b b' q in
    let e' : m.branch k s b ≡ Some (t, c) = sym (ap (λ n. m.branch k n b) i.0) ∙ (sym (ap (λ z. m.branch k s' z) i.1) ∙ e) in
    let d : get_or row s' 0 ≡ get_or row s 0 = ap (λ n. get_or row n 0) i.0 in
    let l = here t c e' in
    omega arith)
    (λ l. old s' b' t c l e)
    (eq-or-lt_of_le {n = turn s' b'} {m = turn s b} (omega arith))

-- an open branch has one end and one cost
one_branch : (next : List ℕ) (x to pay : ℕ) (o : Option (ℕ × ℕ)) → o ≡ Some (to, pay) → get_or next to 0 ≤ x + pay → (t c : ℕ) → o ≡ Some (t, c) → get_or next t 0 ≤ x + c
one_branch next x to pay o opens le t c e =
    let q = same_Some (to, pay) (t, c) (sym opens ∙ e) in
    let a : get_or next to 0 ≡ get_or next t 0 = ap (λ z. get_or next z.0 0) q in
    let d : pay ≡ c = ap (λ z. z.1) q in
    omega arith

kept : (m : Model) (k : ℕ) (row next : List ℕ) (s : ℕ) (b : Bool) → ((t c : ℕ) → m.branch k s b ≡ Some (t, c) → get_or next t 0 ≤ get_or row s 0 + c) → Partly m k row next (turn s b) → Partly m k row next (turn s b + 1)
kept m k row next s b here p = record { lower = lower_more m k row next s b here p.lower; met = p.met; capped = p.capped }

set_le : (next : List ℕ) (t x u : ℕ) → t < length next → x ≤ get_or next t 0 → get_or (set next t x) u 0 ≤ get_or next u 0
set_le next t x u lt le =
    ⊎_elim
    (λ e. subst (λ n. get_or (set next t x) n 0 ≤ get_or next n 0) (sym e) (let q = get_or-set_same next t x 0 lt in omega arith))
    (λ d. let ne : u ≢ t = ⊎_elim (λ l q. omega arith) (λ l q. omega arith) d in let q = get_or-set_other next t u x 0 ne in omega arith)
    (cases_order u t)

pushed : (m : Model) → Lawful m → (k : ℕ) (row next : List ℕ) (s : ℕ) (b : Bool) (to pay : ℕ) → k < m.stages → s < m.states → to < length next → m.branch k s b ≡ Some (to, pay) → get_or row s 0 + pay < get_or next to 0 → Partly m k row next (turn s b) → Partly m k row (set next to (get_or row s 0 + pay)) (turn s b + 1)
pushed m law k row next s b to pay early few lt opens less p =
    let x = get_or row s 0 + pay in
    let w = law.bounded k s b to pay early few opens in
    let cap = p.capped to w.0 in
    let here : get_or (set next to x) to 0 ≡ x = get_or-set_same next to x 0 lt in
    let all : (u : ℕ) → get_or (set next to x) u 0 ≤ get_or next u 0 = λ u. set_le next to x u lt (omega arith) in
    record {
      lower = lower_more m k row (set next to x) s b (one_branch (set next to x) (get_or row s 0) to pay (m.branch k s b) opens (omega arith)) (λ s' b' t c h e. let o = p.lower s' b' t c h e in let a = all t in omega arith);
      met = λ t h l.
          ⊎_elim
          (λ e. record { s = s; b = b; c = pay; within = few; branch = opens ∙ ap (λ n. Some (n, pay)) (sym e); sum = ap (λ n. get_or (set next to x) n 0) e ∙ here })
          (λ d.
          let ne : t ≢ to = ⊎_elim (λ l q. omega arith) (λ l q. omega arith) d in
          let q : get_or (set next to x) t 0 ≡ get_or next t 0 = get_or-set_other next to t x 0 ne in
          subst (λ n. Source m k row t n) (sym q) (p.met t h (omega arith)))
          (cases_order t to);
      capped = λ t h. let o = p.capped t h in let a = all t in omega arith;
    }

-- the less of the two is kept
pub lowered : (m : Model) → Lawful m → (k : ℕ) (row next : List ℕ) (s : ℕ) (b : Bool) (to pay : ℕ) (x : ℕ) → x ≡ min (get_or next to 0) (get_or row s 0 + pay) → k < m.stages → s < m.states → to < length next → Some (to, pay) ≡ m.branch k s b → Partly m k row next (turn s b) → Partly m k row (set next to x) (turn s b + 1)
lowered m law k row next s b to pay x is early few lt opens p =
    ⊎_elim
    (λ l. subst (λ n. Partly m k row (set next to n) (turn s b + 1)) (omega arith) (pushed m law k row next s b to pay early few lt (sym opens) l p))
    (λ l.
    let e : get_or next to 0 ≡ x = omega arith in
    subst (λ z. Partly m k row z (turn s b + 1)) (sym (set-get_or next to 0) ∙ ap (λ n. set next to n) e) (kept m k row next s b (one_branch next (get_or row s 0) to pay (m.branch k s b) (sym opens) l) p))
    (cases_lt (get_or row s 0 + pay) (get_or next to 0))

pub least_more : (m : Model) → Lawful m → (k : ℕ) (row next : List ℕ) → k < m.stages → Leasts m k row → Partly m k row next (2 * m.states) → Leasts m (k + 1) next
least_more m law k row next early rows p = record {
  at = λ t few. rw add-one (record {
    lower = λ v c h.
        let r : Came m v k t c = came m v k t c h in
        let w : r.s < m.states = after_within m law v k r.s r.d (omega arith) r.at in
        let a = (rows.at r.s w).lower v r.d r.at in
        let o = p.lower r.s (v k) t r.e (turn_lt r.s m.states (v k) w) r.step in
        let sum = r.sum in
        omega arith;
    met = λ l.
        let src : Source m k row t (get_or next t 0) = p.met t few l in
        let sum = src.sum in
        let old = (rows.at src.s src.within).met (omega arith) in
        (upd old.0 k src.b, after_on m old.0 k src.s (get_or row src.s 0) t src.c src.b old.1 src.branch ∙ ap (λ n. Some (t, n)) (sym sum));
    capped = p.capped t few;
  });
}
  where
    turn_lt : (s n : ℕ) (b : Bool) → s < n → turn s b < 2 * n
    turn_lt s n true h = omega arith
    turn_lt s n false h = omega arith
