-- What was heard of the stages, one period at a time.
-- Assumes nothing.
use Rattle.std.proofs.Common.{◌≡◌, ℕ, zero, suc, ◌+◌, ◌-◌, ◌*◌, ◌%◌, ◌<◌, ◌≤◌, Bool, List, ◌++◌, length, get_or, take, drop, sym, false, refl, ap, ap₂, ◌∙◌, subst, ⊎_elim, arith}
use borrow.Rule.Slice.PartMut.{post_of, put_mid}
use Rattle.std.proofs.lemmas.Bool.{cases_lt}
use Rattle.std.proofs.lemmas.List.{length-take-le, get_or_append_left, get_or-append_right, get_or-take, get_or-drop}
use Rattle.words.specs.Words.{Bits, flags}
use Rattle.standard.specs.Profiles.{period, punctured}
use Rattle.standard.specs.declared.profile.Coded.TheVariants.{X1}
use Rattle.standard.specs.declared.profile.InnerRate.{InnerRate}
use Rattle.standard.specs.declared.profile.InnerRate.TheVariants.{Half, TwoThirds, ThreeQuarters, FiveSixths}
use Rattle.inner_code.specs.Inner.{Rated, half, two_thirds, three_quarters, five_sixths}
use Rattle.inner_code.proofs.Rates.{rated}
use Rattle.inner_words.specs.Receiving.{sent}
use Rattle.receiver.specs.Kinds.{Kinds, unheard, with_output, heard_of, heard_at, row_of}

-- what stage i of a period sends: the first both outputs, the others one
pub first : (r : InnerRate) (heard : Bits) → with_output (with_output unheard (get_or (punctured r) 0 X1) (heard 0)) (get_or (punctured r) 1 X1) (heard 1) ≡ heard_at (period r) heard 0
unfolding heard_at
first Half heard = refl
first TwoThirds heard = refl
first ThreeQuarters heard = refl
first FiveSixths heard = refl

pub later : (r : InnerRate) (i : ℕ) (heard : Bits) → 1 ≤ i → i < period r → with_output unheard (get_or (punctured r) (i + 1) X1) (heard (i + 1)) ≡ heard_at (period r) heard i
unfolding heard_at
later r zero heard l h = absurd (omega arith)
later Half (suc i) heard l h = absurd (omega arith)
later TwoThirds (suc zero) heard l h = refl
later TwoThirds (suc (suc i)) heard l h = absurd (omega arith)
later ThreeQuarters (suc zero) heard l h = refl
later ThreeQuarters (suc (suc zero)) heard l h = refl
later ThreeQuarters (suc (suc (suc i))) heard l h = absurd (omega arith)
later FiveSixths (suc zero) heard l h = refl
later FiveSixths (suc (suc zero)) heard l h = refl
later FiveSixths (suc (suc (suc zero))) heard l h = refl
later FiveSixths (suc (suc (suc (suc zero)))) heard l h = refl
later FiveSixths (suc (suc (suc (suc (suc i))))) heard l h = absurd (omega arith)

-- where stage i of period q stands, and its coded bits in its period
record Placed (p q i : ℕ) : Type 0 where
  phase : (p * q + i) % p ≡ i % p
  bits : sent p (p * q + i) ≡ (p * q + q) + sent p i
  first : i % p ≡ 0 → sent p i < p
  within : sent p i ≤ p

placed : (p q i : ℕ) → Rated p → i < p → Placed p q i
placed p q i half l = omega arith
placed p q i two_thirds l = omega arith
placed p q i three_quarters l = omega arith
placed p q i five_sixths l = omega arith

-- what was heard of a stage is in its period as in the burst
moved : (i j a : ℕ) (part heard : Bits) → part j ≡ heard (a + j) → (i ≡ 0 → part (suc j) ≡ heard (a + suc j)) → heard_of i part j ≡ heard_of i heard (a + j)
moved zero j a part heard e f = cc (e, f refl, let n : a + suc j ≡ suc (a + j) = omega arith in n)
moved (suc zero) j a part heard e f = cc
moved (suc (suc zero)) j a part heard e f = cc
moved (suc (suc (suc zero))) j a part heard e f = cc
moved (suc (suc (suc (suc i)))) j a part heard e f = cc

-- a part put back: what stands before it, and in it
module _ {X : Type 0} (a n : ℕ) (xs ys : List X) (d : X) (h : a ≤ length xs) where
  put_before : (k : ℕ) → k < a → get_or (put_mid a n xs ys) k d ≡ get_or xs k d
  put_before k l = get_or_append_left (take a xs) (ys ++ post_of a n xs) d k (omega (arith, length-take-le a xs h)) ∙ get_or-take a xs k d l

  put_in : (k : ℕ) → k < length ys → get_or (put_mid a n xs ys) (a + k) d ≡ get_or ys k d
  put_in k l =
      get_or-append_right (take a xs) (ys ++ post_of a n xs) a (a + k) d (length-take-le a xs h) (omega arith)
      ∙ ap (λ (m : ℕ). get_or (ys ++ post_of a n xs) m d) (omega arith) ∙ get_or_append_left ys (post_of a n xs) d k l

-- one period more
pub more : (r : InnerRate) (p q n m : ℕ) (heard : List Bool) (old new : List ℕ) → p ≡ period r → p * q ≤ length old → length new ≡ p → m ≡ p + 1
    → Kinds (period r) (flags (take m (drop (p * q + q) heard))) new (period r) → Kinds p (flags heard) old (p * q) → Kinds p (flags heard) (put_mid (p * q) n old new) (p * (q + 1))
unfolding heard_at
more r p q n m heard old new e room long whole is before k l =
    ⊎_elim
    (λ b. put_before (p * q) n old new 0 room k b ∙ before k b)
    (λ b.
    let w : p * q + (k - p * q) ≡ k = omega arith in
    subst (λ (z : ℕ). get_or (put_mid (p * q) n old new) z 0 ≡ row_of (heard_at p (flags heard) z)) w (at (k - p * q) (omega arith)))
    (cases_lt k (p * q))
  where
    part : Bits
    part = flags (take m (drop (p * q + q) heard))

    same : (j : ℕ) → j ≤ p → part j ≡ flags heard (p * q + q + j)
    same j c = get_or-take m (drop (p * q + q) heard) j false (omega arith) ∙ get_or-drop (p * q + q) heard j false

    at : (i : ℕ) → i < p → get_or (put_mid (p * q) n old new) (p * q + i) 0 ≡ row_of (heard_at p (flags heard) (p * q + i))
    at i b =
        let s = placed p q i (subst Rated (sym e) (rated r)) b in
        put_in (p * q) n old new 0 room i (omega arith) ∙ subst (λ (z : ℕ). get_or new i 0 ≡ row_of (heard_at z part i)) (sym e) (is i (omega arith))
        ∙ ap row_of (moved (i % p) (sent p i) (p * q + q) part (flags heard) (same (sent p i) s.within) (λ z. same (suc (sent p i)) (let f = s.first z in omega arith)))
        ∙ ap₂ (λ (x y : ℕ). row_of (heard_of x (flags heard) y)) (sym s.phase) (sym s.bits)
