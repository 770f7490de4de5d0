-- What replies say of the entries of a lane, and one stage back along the survivors.
-- Assumes nothing.
use Rattle.std.proofs.Common.{◌≡◌, ℕ, suc, ◌+◌, ◌-◌, ◌%◌, ◌<◌, ◌≤◌, Bool, true, false, eqb, ◌≢◌, List, length, get_or, set, Some, None, Option, sym, refl, ap, ◌∙◌, subst, ⊎_elim, eq-or-lt_of_le, arith, length-set, get_or-set_other, get_or-set_same}
use lib.Bits.{bit_and}
use Rattle.std.specs.Prelude.{IsSome, IfSome, min}
use Rattle.std.specs.Option.{option_map}
use Rattle.std.proofs.lemmas.Nat.{and_mask}
use Rattle.paths.specs.Model.{Model, Lawful}
use Rattle.paths.specs.Answers.{Kept}
use Rattle.paths.proofs.Rows.{into, via, charge, Alike, Room, chosen, follow, Onto, trace, Trail}
use Rattle.paths.proofs.Entries.{into_is, into_sound}
use Rattle.paths.proofs.Paths.{upd_at, upd_off}

-- ---- replies
-- an entry that a lane has
module _ (m : Model) (law : Lawful m) (on : m.wanted ≡ true) (k : ℕ) (early : k < m.stages) (t : ℕ) (i : Bool) (from : ℕ) (bit : Bool) (cost : ℕ) (is : Some (from, bit, cost) ≡ into m k t i) where
  -- it names a state
  pub enters_within : from < m.states
  enters_within = (into_sound m law on k early t i from bit cost (sym is)).0

  -- which is a lane
  pub enters_lane : from < 64
  enters_lane = let few = law.wanted_few on in let w = enters_within in omega arith

  -- its cost is small
  pub enters_small : cost ≤ 255
  enters_small =
      let s = into_sound m law on k early t i from bit cost (sym is) in
      (law.bounded k from bit t cost early s.0 s.1).1

-- the candidate that it makes
pub enters_alike : (m : Model) (k t : ℕ) (i : Bool) (from : ℕ) (bit : Bool) (cost : ℕ) (row : List ℕ) → Some (from, bit, cost) ≡ into m k t i → Alike (get_or row from 0 + cost) (via row (into m k t i))
enters_alike m k t i from bit cost row is = ap (λ o. min (via row o) 536870912) is

-- what an entry charges that may be none
pub charge_capped : (m : Model) → Lawful m → m.wanted ≡ true → (k : ℕ) → k < m.stages → (t : ℕ) (i : Bool) → charge (into m k t i) ≤ 536870912
charge_capped m law on k early t i = go (into m k t i) refl
  where
    go : (o : Option (ℕ × Bool × ℕ)) → into m k t i ≡ o → charge o ≤ 536870912
    go None e = omega arith
    go (Some (s, b, c)) e = let l = enters_small m law on k early t i s b c (sym e) in omega arith

-- the same of an entry that may be none, from a lane that is its predecessor where there is one
module _ (m : Model) (k t : ℕ) (i : Bool) (row : List ℕ) (from : ℕ) (named : IfSome (into m k t i) (λ e. from ≡ e.0)) where
  pub charge_room : (top : ℕ) → Room m k row top → get_or row from 0 < 536870912 → charge (into m k t i) < 536870912 → get_or row from 0 + charge (into m k t i) < top
  charge_room top room = go (into m k t i) refl named
    where
      go : (o : Option (ℕ × Bool × ℕ)) → into m k t i ≡ o → IfSome o (λ e. from ≡ e.0) → get_or row from 0 < 536870912 → charge o < 536870912 → get_or row from 0 + charge o < top
      go None e n h l = absurd (omega arith)
      go (Some (s, b, c)) e n h l = subst (λ z. get_or row z 0 < 536870912 → get_or row z 0 + c < top) (sym n) (room.at t i s b c e) h

  pub charge_alike : Alike (get_or row from 0 + charge (into m k t i)) (via row (into m k t i))
  charge_alike = go (into m k t i) named
    where
      go : (o : Option (ℕ × Bool × ℕ)) → IfSome o (λ e. from ≡ e.0) → Alike (get_or row from 0 + charge o) (via row o)
      go None n = omega arith
      go (Some e) n = ap (λ (x : ℕ). min (get_or row x 0 + e.2) 536870912) n

-- ---- back along the survivors
record Back (m : Model) (work : List ℕ) (k t from : ℕ) (bit : Bool) : Type 0 where
  trail : Trail m work k from
  bit_is : trace m work (suc k) t k ≡ bit
  below : (j : ℕ) → j < k → trace m work (suc k) t j ≡ trace m work k from j

back : (m : Model) (work : List ℕ) (k t from : ℕ) (bit : Bool) (cost : ℕ) → Trail m work (suc k) t → Some (from, bit, cost) ≡ into m k t (chosen (get_or work k 0) t) → Back m work k t from bit
unfolding trace Trail
back m work k t from bit cost on is = record {
  trail = subst (λ o. Onto o (Trail m work k)) (sym is) on;
  bit_is = ap (λ o. follow o k (trace m work k) k) (sym is) ∙ upd_at (trace m work k from) k bit;
  below = λ j h. ap (λ o. follow o k (trace m work k) j) (sym is) ∙ upd_off (trace m work k from) k bit j h;
}

-- the bit that the code reads of a word of survivors
pub choice_is : (n : ℕ) → eqb (bit_and n 1) 1 ≡ eqb (n % 2) 1
choice_is n = ap (λ z. eqb z 1) (and_mask n 1)

-- the path from stage k on is written, and the survivors before it lead to the state t
pub record Traced (m : Model) (work : List ℕ) (end k t : ℕ) (old path : List Bool) : Type 0 where
  pub early : k ≤ m.stages
  pub low : t < m.states
  pub trail : Trail m work k t
  pub agree : (j : ℕ) → j < k → trace m work m.stages end j ≡ trace m work k t j
  pub written : (j : ℕ) → k ≤ j → j < m.stages → get_or path j false ≡ trace m work m.stages end j
  pub kept : Kept m.stages old path
  pub long : length path ≡ length old

-- where a path came, the survivors hold a branch
pub traced_there : {E : Type 0} (m : Model) (work : List ℕ) (end k t : ℕ) (choice : Bool) (old path : List Bool) (seen : E → ℕ × Bool × ℕ) (reply : Option E) → choice ≡ chosen (get_or work (k - 1) 0) t → 0 < k → Traced m work end k t old path → option_map seen reply ≡ m.entry (k - 1) t choice → IsSome reply
unfolding Trail
traced_there m work end k t choice old path seen (Some e) is pos traced reply = refl
traced_there m work end k t choice old path seen None is pos traced reply =
    let q : suc (k - 1) ≡ k = omega arith in
    let trail : Trail m work (suc (k - 1)) t = subst (λ n. Trail m work n t) (sym q) traced.trail in
    let none : into m (k - 1) t (chosen (get_or work (k - 1) 0) t) ≡ None = subst (λ i. into m (k - 1) t i ≡ None) is (into_is m (k - 1) t choice traced.low ∙ sym reply) in
    absurd (subst (λ o. Onto o (Trail m work (k - 1))) none trail)

pub traced_back : (m : Model) → Lawful m → m.wanted ≡ true → (work : List ℕ) (end k t from : ℕ) (bit : Bool) (cost : ℕ) (choice : Bool) (old path : List Bool) → choice ≡ chosen (get_or work (k - 1) 0) t → 0 < k → m.stages ≤ length old → Traced m work end k t old path → Some (from, bit, cost) ≡ m.entry (k - 1) t choice → Traced m work end (k - 1) from old (set path (k - 1) bit)
traced_back m law on work end k t from bit cost choice old path is pos long tr reply =
    let early = tr.early in
    let same = tr.long in
    let q : suc (k - 1) ≡ k = omega arith in
    let lane : Some (from, bit, cost) ≡ into m (k - 1) t choice = reply ∙ sym (into_is m (k - 1) t choice tr.low) in
    let b : Back m work (k - 1) t from bit = back m work (k - 1) t from bit cost (subst (λ n. Trail m work n t) (sym q) tr.trail) (subst (λ i. Some (from, bit, cost) ≡ into m (k - 1) t i) is lane) in
    let agree : (j : ℕ) → j < k → trace m work m.stages end j ≡ trace m work (suc (k - 1)) t j = subst (λ n. (j : ℕ) → j < k → trace m work m.stages end j ≡ trace m work n t j) (sym q) tr.agree in
    let lt : k - 1 < length path = omega arith in
    record {
      early = omega arith;
      low = enters_within m law on (k - 1) (omega arith) t choice from bit cost lane;
      trail = b.trail;
      agree = λ j h. agree j (omega arith) ∙ b.below j h;
      written = λ j h l. ⊎_elim
          (λ x. subst (λ n. get_or (set path (k - 1) bit) n false ≡ trace m work m.stages end n) x (get_or-set_same path (k - 1) bit false lt ∙ (sym b.bit_is ∙ sym (agree (k - 1) (omega arith)))))
          (λ x. let ne : j ≢ k - 1 = omega arith in rw get_or-set_other (tr.written j (omega arith) l))
          (eq-or-lt_of_le h);
      kept = λ j h. let ne : j ≢ k - 1 = omega arith in rw get_or-set_other (tr.kept j h);
      long = lengthy;
    }
  where
    lengthy : length (set path (k - 1) bit) ≡ length old
    lengthy = length-set _ _ _ ∙ tr.long
