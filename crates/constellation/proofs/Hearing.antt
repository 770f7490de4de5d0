-- Points to bits: what each loop has written, and that points are heard in one way.
-- Assumes nothing.
use Rattle.std.proofs.Common.{◌≡◌, ℕ, ◌+◌, ◌-◌, ◌*◌, ◌/◌, ◌%◌, ◌<◌, ◌≤◌, Bool, ◌⊎◌, List, ◌++◌, length, take, drop, get_or, ℤ, sym, ap, ◌∙◌, subst, subst₂, inl, inr, mod-lt, mul_comm, div-lt_iff_lt-mul, mul-le-mul_left, mul-suc, arith}
use Rattle.std.proofs.lemmas.List.{length-take-le, get_or-drop}
use Rattle.std.proofs.Math.Seq.{of_parts}
use borrow.Rule.Slice.PartMut.{post_of}
use native.Mathlib.Decide.{dec_lt, ℕ_discrete}
use native.Mathlib.Nat.{div-add-mod}
use Rattle.words.specs.Words.{Bits, flags, value}
use Rattle.words.proofs.Bridge.{value_same, value_below}
use Rattle.words.proofs.Numbers.{part_length}
use Rattle.standard.specs.Profiles.{Modulation}
use Rattle.standard.specs.declared.point.Point.{Point}
use Rattle.constellation.specs.Constellation.{width, in_phase, quadrature, point, origin}
use Rattle.constellation.specs.Decisions.{Decided, Heard, Decisions}
use Rattle.constellation.specs.Steps.{Kept, AxisHeard, PointHeard}
use Rattle.constellation.proofs.Mapping.{width_of, value_one, q_is}
use Rattle.constellation.proofs.Nearness.{decided_some, decided_one, decided_own}

-- ---- one axis
-- the n bits ys were lent as the part of xs from a place on, and put back
module _ (at w n : ℕ) (xs ys : List Bool) (e : w ≡ n) (h : at + n ≤ length xs) (l : length ys ≡ n) where
  abbrev whole : List Bool
  whole = take at xs ++ (ys ++ post_of at (at + w - at) xs)

  before_length : length (take at xs) ≡ at
  before_length = length-take-le at xs (omega arith)

  put_part : (u : ℕ) → u < n → flags whole (at + u) ≡ flags ys u
  put_part u k = grind (arith, of_parts, get_or-drop, before_length)

  put_kept : Kept at n (flags xs) (flags whole)
  put_kept k (inl o) = grind (arith, of_parts, get_or-drop, before_length)
  put_kept k (inr o) = grind (arith, of_parts, get_or-drop, before_length)

  pub axis_heard : (v : ℕ) (x : ℤ) → Decided n x v → value (length (take (at + w - at) (drop at xs))) (flags ys) ≡ v → AxisHeard at n x (flags xs) (flags whole)
  axis_heard v x d r =
      record {
        decided = subst (λ (k : ℕ). Decided n x k) (sym (value_same n (λ u. flags whole (at + u)) (flags ys) put_part ∙ same)) d;
        kept = put_kept;
      }
    where
      same : value n (flags ys) ≡ v
      same = ap (λ (k : ℕ). value k (flags ys)) (sym (part_length at w n xs e h)) ∙ r

-- an axis whose bits did not change
axis_kept : (b : ℕ) (x : ℤ) (f : ℕ → ℕ) (before after : Bits) → ((u : ℕ) → u < b → after (f u) ≡ before (f u)) → Decided b x (value b (λ u. before (f u))) → Decided b x (value b (λ u. after (f u)))
axis_kept b x f before after h d = subst (λ (n : ℕ). Decided b x n) (value_same b (λ u. before (f u)) (λ u. after (f u)) (λ u l. sym (h u l))) d

-- ---- one point
width_le : (c : ℕ) → Modulation c → width c ≤ c
width_le c m = omega arith

width_two : (c : ℕ) → Modulation c → 1 < c → width c + width c ≡ c
width_two c m h = omega arith

-- as it is computed: the bits of the carrier begin at a place, and an axis has w
pub in_phase_heard : (c t at : ℕ) (p : Point) (before after : Bits) → Modulation c → at ≡ c * t → c ≤ 1 → AxisHeard at (width c) p.i before after → PointHeard c t p before after
in_phase_heard c t at p before after m e h b =
    let a = subst (λ (k : ℕ). AxisHeard k (width c) p.i before after) e b in
    record { i = a.decided; q = λ l. absurd (omega arith); kept = λ k o. a.kept k (outside k o) }
  where
    outside : (k : ℕ) → (k < c * t) ⊎ (c * t + c ≤ k) → (k < c * t) ⊎ (c * t + width c ≤ k)
    outside k (inl o) = inl o
    outside k (inr o) = inr (let z = width_le c m in omega arith)

pub point_heard : (c t w at : ℕ) (p : Point) (before mid after : Bits) → Modulation c → w ≡ width c → at ≡ c * t → 1 < c → AxisHeard at (width c) p.i before mid → AxisHeard (at + w) (width c) p.q mid after → PointHeard c t p before after
point_heard c t w at p before mid after m ew ea h a b =
    both (subst (λ (k : ℕ). AxisHeard k (width c) p.i before mid) ea a) (subst₂ (λ (k v : ℕ). AxisHeard (k + v) (width c) p.q mid after) ea ew b)
  where
    both : AxisHeard (c * t) (width c) p.i before mid → AxisHeard (c * t + width c) (width c) p.q mid after → PointHeard c t p before after
    both x y =
        record {
          i = axis_kept (width c) p.i (λ u. c * t + u) mid after (λ u l. y.kept (c * t + u) (inl (omega arith))) x.decided;
          q = λ _. y.decided;
          kept = outside;
        }
      where
        outside : Kept (c * t) c before after
        outside k (inl o) = y.kept k (inl (omega arith)) ∙ x.kept k (inl o)
        outside k (inr o) = let z = width_two c m h in y.kept k (inr (omega arith)) ∙ x.kept k (inr (omega arith))

-- ---- all points
-- the first n points are heard, and the rest is as it was
pub record HeardTo (c n : ℕ) (points : List Point) (before now : Bits) : Type 0 where
  pub heard : Heard c n points now
  pub past : (k : ℕ) → c * n ≤ k → now k ≡ before k

-- the bits of carrier t end before those of carrier n start
carrier_ends : (c t n : ℕ) → t < n → c * t + c ≤ c * n
carrier_ends c t n h = let e = mul-le-mul_left c h in let f = mul-suc c t in omega arith

pub heard_more : (c n : ℕ) (points : List Point) (before mid now : Bits) → Modulation c → HeardTo c n points before mid → PointHeard c n (get_or points n origin) mid now → HeardTo c (n + 1) points before now
heard_more c n points before mid now m w p =
    record {
      heard = record {
        i = λ t h. elim (ℕ_discrete t n) [
          | yes e ↦ subst (λ (x : ℕ). Decided (width c) (get_or points x origin).i (in_phase c now x)) (sym e) p.i
          | no e ↦ axis_kept (width c) (get_or points t origin).i (λ u. c * t + u) mid now
              (λ u l. p.kept (c * t + u) (inl (let z = carrier_ends c t n (omega arith) in let y = width_le c m in omega arith))) (w.heard.i t (omega arith))
        ];
        q = λ g t h. elim (ℕ_discrete t n) [
          | yes e ↦ subst (λ (x : ℕ). Decided (width c) (get_or points x origin).q (quadrature c now x)) (sym e) (p.q g)
          | no e ↦ axis_kept (width c) (get_or points t origin).q (λ u. c * t + width c + u) mid now
              (λ u l. p.kept (c * t + width c + u) (inl (let z = carrier_ends c t n (omega arith) in let y = width_two c m g in omega arith))) (w.heard.q g t (omega arith))
        ];
      };
      past = λ k h. p.kept k (inr (let z = mul-suc c n in omega arith)) ∙ w.past k (let z = mul-suc c n in omega arith);
    }

-- ---- points are heard in one way
-- what holds at every bit of n carriers holds at every place below c * n
by_carrier : (c n : ℕ) (P : ℕ → Type 0) → 0 < c → ((t u : ℕ) → t < n → u < c → P (c * t + u)) → (k : ℕ) → k < c * n → P k
by_carrier c n P hc h k l =
    subst P (div-add-mod k c) (h (k / c) (k % c) ((div-lt_iff_lt-mul hc).1 (subst (λ (x : ℕ). k < x) (mul_comm c n) l)) (mod-lt k hc))

pub heard_one : (c n : ℕ) (points : List Point) (a b : Bits) → Modulation c → Heard c n points a → Heard c n points b → (k : ℕ) → k < c * n → a k ≡ b k
heard_one c n points a b m p q =
    by_carrier c n (λ k. a k ≡ b k) (omega arith)
    (λ t u h l. elim (dec_lt u (width c)) [
      | yes s ↦ value_one (width c) (λ u. a (c * t + u)) (λ u. b (c * t + u))
          (decided_one (width c) (get_or points t origin).i (in_phase c a t) (in_phase c b t) (width_of c m) (p.i t h) (q.i t h)) u s
      | no s ↦ second t u h l (omega arith)
    ])
  where
    second : (t u : ℕ) → t < n → u < c → width c ≤ u → a (c * t + u) ≡ b (c * t + u)
    second t u h l s =
        let two : 1 < c = omega arith in
        subst (λ (x : ℕ). a x ≡ b x) (let z : c * t + width c + (u - width c) ≡ c * t + u = omega arith in z)
        (value_one (width c) (λ u. a (c * t + width c + u)) (λ u. b (c * t + width c + u))
        (decided_one (width c) (get_or points t origin).q (quadrature c a t) (quadrature c b t) (width_of c m) (p.q two t h) (q.q two t h)) (u - width c) (let z = width_two c m two in omega arith))

-- points as they were sent are heard as the bits sent
pub sent_heard : (c n : ℕ) (points : List Point) (sent : Bits) → Modulation c → ((t : ℕ) → t < n → get_or points t origin ≡ point c sent t) → Heard c n points sent
sent_heard c n points sent m h =
    record {
      i = λ t l. subst (λ (x : ℤ). Decided (width c) x (in_phase c sent t)) (sym (ap (λ (p : Point). p.i) (h t l)))
          (decided_own (width c) (in_phase c sent t) (width_of c m) (value_below (width c) (λ u. sent (c * t + u))));
      q = λ g t l. subst (λ (x : ℤ). Decided (width c) x (quadrature c sent t)) (sym (ap (λ (p : Point). p.q) (h t l) ∙ q_is c sent t g))
          (decided_own (width c) (quadrature c sent t) (width_of c m) (value_below (width c) (λ u. sent (c * t + width c + u))));
    }

pub decisions : Decisions
decisions =
    record {
      some = decided_some;
      one = decided_one;
      own = decided_own;
      heard_one = heard_one;
      heard_sent = λ c n points sent bits m h p. heard_one c n points bits sent m p (sent_heard c n points sent m h);
    }
