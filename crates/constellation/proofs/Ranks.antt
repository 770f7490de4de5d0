-- The levels of an axis in rising order: the rank of bits, and the bits of a rank.
-- Assumes nothing.
use Rattle.std.proofs.Common.{◌≡◌, ℕ, zero, suc, ◌+◌, ◌-◌, ◌*◌, ◌/◌, ◌^◌, ◌<◌, ◌≤◌, Bool, true, false, T, eqb, ltb, leb, ℤ, pos, negsuc, ◌-ℤ◌, nat_abs, sym, ap, ◌∙◌, subst, inl, inr, le_of_suc-le-suc, not-suc-le-zero, eq-or-lt_of_le, arith, eqb→eq, ltb→lt, leb→le}
use Rattle.std.proofs.lemmas.Int.{ints}
use lib.Bits.{bit_xor}
use Rattle.constellation.specs.Constellation.{Width, level}

-- the rank of the bits v among the levels, from 0 for the lowest
unfoldable pub rank : ℕ → ℕ → ℕ
rank b v = let g = 2 ^ b - 1 - v in bit_xor g (bit_xor (g / 2) (g / 4))

-- the bits of the rank n
unfoldable pub named : ℕ → ℕ → ℕ
named b n = 2 ^ b - 1 - bit_xor n (n / 2)

-- the level of rank n among l levels
abbrev pub graded : ℕ → ℕ → ℤ
graded l n = pos (512 * n + 256) -ℤ pos (256 * l)

-- ---- a test at every number below n
abbrev both : Bool → Bool → Bool
both true b = b
both false b = false

abbrev pub all : (ℕ → Bool) → ℕ → Bool
all f zero = true
all f (suc n) = both (f n) (all f n)

both_l : (a b : Bool) → T (both a b) → T a
both_l true b t = tt
both_l false b t = t

both_r : (a b : Bool) → T (both a b) → T b
both_r true b t = t
both_r false b t = absurd t

all_at : (f : ℕ → Bool) (n : ℕ) → T (all f n) → (k : ℕ) → k < n → T (f k)
all_at f zero t k h = absurd (not-suc-le-zero h)
all_at f (suc n) t k h =
    elim (eq-or-lt_of_le (le_of_suc-le-suc h)) [
      | inl e ↦ subst (λ (m : ℕ). T (f m)) (sym e) (both_l (f n) (all f n) t)
      | inr l ↦ all_at f n (both_r (f n) (all f n) t) k l
    ]

-- what holds at the widths 1, 2 and 3
widths : (P : ℕ → Type 0) → P 1 → P 2 → P 3 → (b : ℕ) → Width b → P b
widths P p q r b (inl e) = subst P (sym e) p
widths P p q r b (inr (inl e)) = subst P (sym e) q
widths P p q r b (inr (inr e)) = subst P (sym e) r

-- a test at every number below 2 ^ b, computed at the three widths
pub tested : (f : ℕ → ℕ → Bool) → T (all (f 1) 2) → T (all (f 2) 4) → T (all (f 3) 8) → (b v : ℕ) → Width b → v < 2 ^ b → T (f b v)
tested f p q r b v w h = all_at (f b) (2 ^ b) (widths (λ (d : ℕ). T (all (f d) (2 ^ d))) p q r b w) v h

-- ---- equal integers, as a test
abbrev eqZ : ℤ → ℤ → Bool
eqZ (pos a) (pos b) = eqb a b
eqZ (pos a) (negsuc b) = false
eqZ (negsuc a) (pos b) = false
eqZ (negsuc a) (negsuc b) = eqb a b

eqZ→eq : (a b : ℤ) → T (eqZ a b) → a ≡ b
eqZ→eq (pos a) (pos b) t = ap pos (eqb→eq a b t)
eqZ→eq (pos a) (negsuc b) t = absurd t
eqZ→eq (negsuc a) (pos b) t = absurd t
eqZ→eq (negsuc a) (negsuc b) t = ap negsuc (eqb→eq a b t)

-- ---- a level is the level of its rank
pub level_is : (b v : ℕ) → Width b → v < 2 ^ b → level b v ≡ graded (2 ^ b) (rank b v)
unfolding rank
level_is b v w h = eqZ→eq (level b v) (graded (2 ^ b) (rank b v)) (tested (λ b v. eqZ (level b v) (graded (2 ^ b) (rank b v))) tt tt tt b v w h)

pub named_rank : (b v : ℕ) → Width b → v < 2 ^ b → named b (rank b v) ≡ v
unfolding rank named
named_rank b v w h = eqb→eq (named b (rank b v)) v (tested (λ b v. eqb (named b (rank b v)) v) tt tt tt b v w h)

pub rank_below : (b v : ℕ) → Width b → v < 2 ^ b → rank b v < 2 ^ b
unfolding rank
rank_below b v w h = ltb→lt (rank b v) (2 ^ b) (tested (λ b v. ltb (rank b v) (2 ^ b)) tt tt tt b v w h)

pub level_within : (b v : ℕ) → Width b → v < 2 ^ b → nat_abs (level b v) ≤ 1792
level_within b v w h = leb→le (nat_abs (level b v)) 1792 (tested (λ b v. leb (nat_abs (level b v)) 1792) tt tt tt b v w h)

-- a level has one name
pub level_one : (b u v : ℕ) → Width b → u < 2 ^ b → v < 2 ^ b → level b u ≡ level b v → u ≡ v
level_one b u v w hu hv e =
    sym (named_rank b u w hu)
    ∙ ap (named b) (graded_one (2 ^ b) (rank b u) (rank b v) (sym (level_is b u w hu) ∙ e ∙ level_is b v w hv))
    ∙ named_rank b v w hv
  where
    graded_one : (l m n : ℕ) → graded l m ≡ graded l n → m ≡ n
    graded_one l m n e = omega (arith, ints)

-- ---- a rank has bits
pub gray_below : (b n : ℕ) → Width b → n < 2 ^ b → bit_xor n (n / 2) ≤ 2 ^ b - 1
gray_below b n w h = leb→le (bit_xor n (n / 2)) (2 ^ b - 1) (tested (λ b n. leb (bit_xor n (n / 2)) (2 ^ b - 1)) tt tt tt b n w h)

pub named_below : (b n : ℕ) → Width b → n < 2 ^ b → named b n < 2 ^ b
unfolding named
named_below b n w h = ltb→lt (named b n) (2 ^ b) (tested (λ b n. ltb (named b n) (2 ^ b)) tt tt tt b n w h)

pub rank_named : (b n : ℕ) → Width b → n < 2 ^ b → rank b (named b n) ≡ n
unfolding named rank
rank_named b n w h = eqb→eq (rank b (named b n)) n (tested (λ b n. eqb (rank b (named b n)) n) tt tt tt b n w h)

-- the level of a rank's bits
pub level_named : (b n : ℕ) → Width b → n < 2 ^ b → level b (named b n) ≡ graded (2 ^ b) n
level_named b n w h = level_is b (named b n) w (named_below b n w h) ∙ ap (graded (2 ^ b)) (rank_named b n w h)
