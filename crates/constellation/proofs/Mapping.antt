-- Bits to points: what the loop has written, and that points carry their bits.
-- Assumes nothing.
use Rattle.std.proofs.Common.{◌≡◌, ℕ, zero, suc, ◌+◌, ◌-◌, ◌*◌, ◌<◌, ◌≤◌, Bool, cond, eqb, ℤ, pos, nat_abs, sym, refl, ap, ◌∙◌, subst, ap₂, inl, inr, arith}
use native.Mathlib.Decide.{dec_lt, ℕ_discrete}
use Rattle.words.specs.Words.{Bits, value, digit}
use Rattle.words.proofs.Bridge.{digit_lt, digit_eqb, value_below, value_suc}
use Rattle.standard.specs.Profiles.{Modulation}
use Rattle.standard.specs.declared.point.Point.{Point}
use Rattle.constellation.specs.Constellation.{Width, width, level, in_phase, quadrature, point, Carried}
use Rattle.constellation.proofs.Ranks.{level_within, level_one}

pub width_of : (c : ℕ) → Modulation c → Width (width c)
width_of c (inl e) = inl (ap width e)
width_of c (inr (inl e)) = inl (ap width e)
width_of c (inr (inr (inl e))) = inr (inl (ap width e))
width_of c (inr (inr (inr e))) = inr (inr (ap width e))

-- ---- bits of a number
digit_one : (a b : Bool) → digit a ≡ digit b → a ≡ b
digit_one a b e = sym (digit_eqb a) ∙ ap (λ (x : ℕ). eqb x 1) e ∙ digit_eqb b

-- bits are known from their number
pub value_one : (n : ℕ) (a b : Bits) → value n a ≡ value n b → (u : ℕ) → u < n → a u ≡ b u
value_one zero a b e u h = absurd (omega arith)
value_one (suc n) a b e u h =
    let p = value_suc n a in
    let q = value_suc n b in
    let x = digit_lt (a n) in
    let y = digit_lt (b n) in
    elim (ℕ_discrete u n) [
      | yes f ↦ subst (λ (k : ℕ). a k ≡ b k) (sym f) (digit_one (a n) (b n) (omega arith))
      | no f ↦ value_one n a b (omega arith) u (omega arith)
    ]

-- ---- one point
pub q_is : (c : ℕ) (sent : Bits) (t : ℕ) → 1 < c → (point c sent t).q ≡ level (width c) (quadrature c sent t)
q_is c sent t h = not_one c (pos 0) (level (width c) (quadrature c sent t)) h
  where
    not_one : (c : ℕ) (x y : ℤ) → 1 < c → cond (eqb c 1) x y ≡ y
    not_one c x y h = grind arith

-- as it is computed: its bits begin at a place, and an axis has w
pub point_by : (c w at : ℕ) (sent : Bits) (t : ℕ) (x y : ℤ) → 1 < c → w ≡ width c → at ≡ c * t → x ≡ level (width c) (value (width c) (λ u. sent (at + u))) → y ≡ level (width c) (value (width c) (λ u. sent (at + w + u)))
    → ◌≡◌ {A = Point} (record { i = x; q = y }) (point c sent t)
point_by c w at sent t x y h ew ea ex ey =
    ap₂ (λ (i q : ℤ). record { i = i; q = q })
    (ex ∙ ap (λ (a : ℕ). level (width c) (value (width c) (λ u. sent (a + u)))) ea)
    (ey ∙ ap₂ (λ (a b : ℕ). level (width c) (value (width c) (λ u. sent (a + b + u)))) ea ew ∙ sym (q_is c sent t h))

-- ---- points carry their bits
axis_one : (b : ℕ) (x y : Bits) → Width b → level b (value b x) ≡ level b (value b y) → (u : ℕ) → u < b → x u ≡ y u
axis_one b x y w e = value_one b x y (level_one b (value b x) (value b y) w (value_below b x) (value_below b y) e)

pub carried : Carried
carried =
    record {
      i_level = λ c sent t. record { named = in_phase c sent t; below = value_below (width c) (λ u. sent (c * t + u)); value = refl };
      q_level = λ c sent t h. record { named = quadrature c sent t; below = value_below (width c) (λ u. sent (c * t + width c + u)); value = q_is c sent t h };
      q_none = λ sent t. refl;
      i_within = λ c sent t m. level_within (width c) (in_phase c sent t) (width_of c m) (value_below (width c) (λ u. sent (c * t + u)));
      q_within = reach;
      one_to_one = λ c a b t m e u h. elim (dec_lt u (width c)) [
        | yes l ↦ axis_one (width c) (λ u. a (c * t + u)) (λ u. b (c * t + u)) (width_of c m) (ap (λ (p : Point). p.i) e) u l
        | no l ↦ second c a b t m e u h (omega arith)
      ];
    }
  where
    reach : (c : ℕ) (sent : Bits) (t : ℕ) → Modulation c → nat_abs (point c sent t).q ≤ 1792
    reach c sent t m = elim (dec_lt 1 c) [
      | yes h ↦ subst (λ (x : ℤ). nat_abs x ≤ 1792) (sym (q_is c sent t h)) (level_within (width c) (quadrature c sent t) (width_of c m) (value_below (width c) (λ u. sent (c * t + width c + u))))
      | no h ↦ (let e : c ≡ 1 = omega arith in subst (λ (x : ℕ). nat_abs (point x sent t).q ≤ 1792) (sym e) (omega arith))
    ]

    second : (c : ℕ) (a b : Bits) (t : ℕ) → Modulation c → point c a t ≡ point c b t → (u : ℕ) → u < c → width c ≤ u → a (c * t + u) ≡ b (c * t + u)
    second c a b t m e u h l =
        let two : 1 < c = omega arith in
        let short : u - width c < width c = omega arith in
        subst (λ (x : ℕ). a x ≡ b x) (let z : c * t + width c + (u - width c) ≡ c * t + u = omega arith in z)
        (axis_one (width c) (λ u. a (c * t + width c + u)) (λ u. b (c * t + width c + u)) (width_of c m)
        (sym (q_is c a t two) ∙ ap (λ (p : Point). p.q) e ∙ q_is c b t two) (u - width c) short)
