-- The first and the last row where no path is wanted.
-- Assumes nothing.
use Rattle.std.proofs.Common.{◌≡◌, ℕ, ◌<◌, false, ◌≢◌, List, get_or, Some, None, Option, sym, ap, ◌∙◌, subst, ⊎_elim, arith}
use Rattle.std.proofs.lemmas.Bool.{cases_order}
use Rattle.paths.specs.Model.{Model, Lawful, after}
use Rattle.paths.specs.Answers.{LeastCost, Unreachable}
use Rattle.std.specs.Option.{option_map}
use Rattle.paths.proofs.Rows.{Least, End}
use Rattle.paths.proofs.Pushed.{Leasts}
use Rattle.std.proofs.lemmas.Option.{same_Some}
use Rattle.paths.proofs.Paths.{after_within, after_cost}

start_at : (m : Model) (x : ℕ) → x ≡ 0 → Least m 0 m.start x
unfolding after
start_at m x e = record {
  lower = λ v c h. omega arith;
  met = λ lt. (λ j. false, ap (λ n. Some (m.start, n)) (sym e));
  capped = omega arith;
}

start_off : (m : Model) (t x : ℕ) → t ≢ m.start → x ≡ 536870912 → Least m 0 t x
unfolding after
start_off m t x ne e = record {
  lower = λ v c h. let p : m.start ≡ t = ap (λ z. z.0) (same_Some (m.start, 0) (t, c) h) in absurd (omega arith);
  met = λ lt. absurd (omega arith);
  capped = omega arith;
}

pub start_leasts : (m : Model) → Lawful m → (row : List ℕ) (start : ℕ) → start ≡ m.start → get_or row start 0 ≡ 0 → ((t : ℕ) → t < 4096 → (t ≡ start → ⊥) → get_or row t 0 ≡ 536870912) → Leasts m 0 row
start_leasts m law row start is z o = record {
  at = λ t h.
      let few = law.few_states in
      ⊎_elim
      (λ e. subst (λ n. Least m 0 n (get_or row n 0)) (sym e) (start_at m (get_or row m.start 0) (subst (λ n. get_or row n 0 ≡ 0) is z)))
      (λ d. let ne : t ≢ m.start = ⊎_elim (λ l q. omega arith) (λ l q. omega arith) d in start_off m t (get_or row t 0) ne (o t (omega arith) (λ q. ne (q ∙ is))))
      (cases_order t m.start);
}

-- the answer from the last row
abbrev pub Costed : Model → Option ℕ → Type 0
Costed m None = Unreachable m
Costed m (Some x) = LeastCost m x

pub costed : (m : Model) → Lawful m → (row : List ℕ) → Leasts m m.stages row → (r : Option ℕ) → End m row m.states r → Costed m (option_map (λ t. get_or row t 0) r)
costed m law row rows None none = λ v c a.
    let stages = law.few_stages in
    let w = after_within m law v m.stages a.end c (omega arith) a.stands in
    let low = (rows.at a.end w).lower v c a.stands in
    let no = none a.end w a.ends in
    let cheap = after_cost m law v m.stages a.end c (omega arith) a.stands in
    omega arith
costed m law row rows (Some t) ch =
    let got = (rows.at t ch.within).met ch.reached in
    record {
      path = got.0;
      arrives = record { end = t; ends = ch.ends; stands = got.1 };
      least = λ v c a.
          let w = after_within m law v m.stages a.end c (omega arith) a.stands in
          let low = (rows.at a.end w).lower v c a.stands in
          let le = ch.least a.end w a.ends in
          omega arith;
    }
