-- The first row, and the answer from the last one.
-- Assumes nothing.
use Rattle.std.proofs.Common.{◌≡◌, ℕ, suc, ◌+◌, ◌<◌, Bool, true, false, ◌≢◌, List, get_or, Some, None, sym, refl, ap, ◌∙◌, subst, ⊎_elim, eq-or-lt_of_le, arith}
use Rattle.std.proofs.lemmas.Bool.{cases_order}
use Rattle.paths.specs.Model.{Model, Lawful, Path, after}
use Rattle.paths.specs.Ties.{state_of, First, BitsFirst, same_bits, lower_bit, same_states, lower_state}
use Rattle.paths.specs.Answers.{path_of, FirstPath, Unreachable, Kept, By, Found}
use Rattle.paths.proofs.Rows.{trace, Trail, Best, Reached, Room, Below, Chosen, End}
use Rattle.std.proofs.lemmas.Option.{same_Some}
use Rattle.paths.proofs.Paths.{after_same, after_within, after_cost, after_on}
use Rattle.paths.proofs.Entries.{into_sound}

start_first : (m : Model) (w v : Path) → First m w v 0
unfolding after
start_first m w v = same_states (λ j h. let e : 0 ≡ j = omega arith in subst (λ n. state_of (after m w n) ≡ state_of (after m v n)) e refl) (same_bits (λ j h. absurd (omega arith)))

start_at : (m : Model) (w : Path) (x : ℕ) → x ≡ 0 → Best m 0 m.start x w
unfolding after
start_at m w x e = record {
  lower = λ v c h. omega arith;
  met = λ lt. ap (λ n. Some (m.start, n)) (sym e);
  first = λ lt v h. start_first m w v;
  capped = omega arith;
}

start_off : (m : Model) (w : Path) (t x : ℕ) → t ≢ m.start → x ≡ 536870912 → Best m 0 t x w
unfolding after
start_off m w t x ne e = record {
  lower = λ v c h. let p : m.start ≡ t = ap (λ z. z.0) (same_Some (m.start, 0) (t, c) h) in absurd (omega arith);
  met = λ lt. absurd (omega arith);
  first = λ lt. absurd (omega arith);
  capped = omega arith;
}

pub start_reached : (m : Model) (work row : List ℕ) → get_or row m.start 0 ≡ 0 → ((t : ℕ) → t < 64 → t ≢ m.start → get_or row t 0 ≡ 536870912) → Reached m work 0 row
unfolding Trail
start_reached m work row z o = record {
  best = λ t h.
      ⊎_elim
      (λ e. subst (λ n. Best m 0 n (get_or row n 0) (trace m work 0 n)) (sym e) (start_at m (trace m work 0 m.start) (get_or row m.start 0) z))
      (λ d. let ne : t ≢ m.start = ⊎_elim (λ l q. omega arith) (λ l q. omega arith) d in start_off m (trace m work 0 t) t (get_or row t 0) ne (o t h ne))
      (cases_order t m.start);
  trail = λ t h lt. tt;
}

pub start_reached_at : (m : Model) (work row : List ℕ) (start : ℕ) → start ≡ m.start → get_or row start 0 ≡ 0 → ((t : ℕ) → t < 64 → (t ≡ start → ⊥) → get_or row t 0 ≡ 536870912) → Reached m work 0 row
start_reached_at m work row start e z o = start_reached m work row (subst (λ n. get_or row n 0 ≡ 0) e z) (λ t h ne. o t h (λ q. ne (q ∙ e)))

-- what a row of bits says below n is all that counts
pub first_same : (m : Model) (w u v : Path) (n : ℕ) → ((j : ℕ) → j < n → w j ≡ u j) → First m u v n → First m w v n
first_same m w u v n e (same_states f g) =
    same_states (λ j h. ap state_of (after_same m w u j (λ i l. e i (omega arith))) ∙ f j h) (bits g)
  where
    bits : BitsFirst u v n → BitsFirst w v n
    bits (same_bits b) = same_bits (λ j h. e j h ∙ b j h)
    bits (lower_bit k l x y b) = lower_bit k l (e k l ∙ x) y (λ j g h. e j h ∙ b j g h)
first_same m w u v n e (lower_state k l x f) =
    lower_state k l (let p = ap state_of (after_same m w u k (λ i z. e i (omega arith))) in omega arith)
    (λ j g h. ap state_of (after_same m w u j (λ i z. e i (omega arith))) ∙ f j g h)

pub unreachable : (m : Model) → Lawful m → m.wanted ≡ true → (work row : List ℕ) → Reached m work m.stages row → End m row m.states None → Unreachable m
unreachable m law on work row r none v c a =
    let few = law.wanted_few on in
    let stages = law.few_stages in
    let w = after_within m law v m.stages a.end c (omega arith) a.stands in
    let low = (r.best a.end (omega arith)).lower v c a.stands in
    let no = none a.end w a.ends in
    let cheap = after_cost m law v m.stages a.end c (omega arith) a.stands in
    omega arith

pub first_path : (m : Model) → Lawful m → m.wanted ≡ true → (work row : List ℕ) (bits : List Bool) (t : ℕ) → Reached m work m.stages row → Chosen m row m.states t → ((j : ℕ) → j < m.stages → get_or bits j false ≡ trace m work m.stages t j) → FirstPath m (get_or row t 0) (path_of bits)
first_path m law on work row bits t r ch agree =
    let few = law.wanted_few on in
    let in64 = ch.within in
    let b = r.best t (omega arith) in
    let own : after m (path_of bits) m.stages ≡ Some (t, get_or row t 0) = after_same m (path_of bits) (trace m work m.stages t) m.stages agree ∙ b.met ch.reached in
    record {
      arrives = record { end = t; ends = ch.ends; stands = own };
      least = λ v c a.
          let w = after_within m law v m.stages a.end c (omega arith) a.stands in
          let low = (r.best a.end (omega arith)).lower v c a.stands in
          let le = ch.least a.end w a.ends in
          omega arith;
      first = λ v a.
          let h = a.stands in
          let w = after_within m law v m.stages a.end (get_or row t 0) (omega arith) h in
          let low = (r.best a.end (omega arith)).lower v (get_or row t 0) h in
          let le = ch.least a.end w a.ends in
          let same : get_or row t 0 ≡ get_or row a.end 0 = omega arith in
          ⊎_elim
          (λ q. first_same m (path_of bits) (trace m work m.stages t) v m.stages agree (b.first ch.reached v (h ∙ ap (λ n. Some (n, get_or row t 0)) (sym q))))
          (λ less. lower_state m.stages (omega arith) (let x = ap state_of own in let y = ap state_of h in omega arith) (λ j g l. absurd (omega arith)))
          (eq-or-lt_of_le (ch.lowest a.end w a.ends same));
    }

-- ---- no open branch leads past the top
pub always_below : (m : Model) → Lawful m → Below m 536870912
always_below m law = record { at = λ p k t c le h. let a = after_cost m law p k t c le h in let b = law.few_stages in omega arith }

pub room_there : (m : Model) → Lawful m → m.wanted ≡ true → (top : ℕ) → Below m top → (work : List ℕ) (k : ℕ) (row : List ℕ) → k < m.stages → Reached m work k row → Room m k row top
room_there m law on top low work k row early r = record {
  at = λ t i s b c e l.
      let few = law.wanted_few on in
      let so = into_sound m law on k early t i s b c e in
      let p = (r.best s (omega arith)).met l in
      let q = after_on m (trace m work k s) k s (get_or row s 0) t c b p so.1 in
      low.at _ (suc k) t (get_or row s 0 + c) (omega arith) q;
}

-- ---- the answer
pub by_true : (b : Bool) (P Q : Type 0) → b ≡ true → P → By b P Q
by_true b P Q e h = subst (λ z. By z P Q) (sym e) h

pub found_none : (m : Model) → Lawful m → m.wanted ≡ true → (work row : List ℕ) (path : List Bool) → Reached m work m.stages row → End m row m.states None → Found m path path None
found_none m law on work row path r none = (unreachable m law on work row r none, refl)

pub found_path : (m : Model) → Lawful m → m.wanted ≡ true → (work row : List ℕ) (old new : List Bool) (t : ℕ) → Reached m work m.stages row → Chosen m row m.states t → ((j : ℕ) → j < m.stages → get_or new j false ≡ trace m work m.stages t j) → Kept m.stages old new → Found m old new (Some (get_or row t 0))
found_path m law on work row old new t r ch agree kept = by_true m.wanted _ _ on (first_path m law on work row new t r ch agree, kept)
