-- The nearest of levels that stand 512 apart is the one whose rank an axis value has.
-- Assumes nothing.
use Rattle.std.proofs.Common.{◌≡◌, ℕ, zero, suc, ◌+◌, ◌-◌, ◌*◌, ◌/◌, ◌^◌, ◌<◌, ◌≤◌, min, ◌⊎◌, ℤ, pos, negsuc, ◌+ℤ◌, ◌≤ℤ◌, ◌<ℤ◌, sym, refl, ap, ◌∙◌, subst, subst₂, inl, inr, arith, lit<}
use native.Mathlib.Decide.{dec_lt, ℕ_discrete}
use native.Mathlib.Nat.{one-le-pow}
use lib.Bits.{bit_xor}
use Rattle.std.proofs.lemmas.Int.{ints}
use Rattle.constellation.specs.Constellation.{Width, level}
use Rattle.constellation.specs.Decisions.{apart, Decided, Verdict, DecisionCases}
use Rattle.constellation.specs.Steps.{Ranked}
use Rattle.constellation.proofs.Ranks.{rank, named, graded, level_is, rank_below, named_rank, gray_below, named_below, level_named}

-- where another rank u stands to the rank n of x
pub Stands : ℕ → ℤ → ℕ → ℕ → Type 0
Stands l x n u = (u ≡ n) ⊎ (((u < n) × (pos (512 * n) ≤ℤ (x +ℤ pos (256 * l)))) ⊎ ((n < u) × ((x +ℤ pos (256 * l)) <ℤ pos (512 * (n + 1)))))

pub stands : (l : ℕ) (x : ℤ) (n u : ℕ) → Ranked l x n → u < l → Stands l x n u
unfolding Stands
stands l x n u r h =
    elim (dec_lt u n) [
      | yes a ↦ inr (inl (a, r.low (omega arith)))
      | no a ↦ elim (dec_lt n u) [ yes b ↦ inr (inr (b, r.high (omega arith))) | no b ↦ inl (omega arith) ]
    ]

nearest_by : (l : ℕ) (x : ℤ) (n u : ℕ) → Stands l x n u → apart x (graded l n) ≤ apart x (graded l u)
unfolding Stands
nearest_by l x n u (inl e) = subst (λ (m : ℕ). apart x (graded l n) ≤ apart x (graded l m)) (sym e) (omega arith)
nearest_by l x n u (inr (inl p)) = omega (arith, ints)
nearest_by l x n u (inr (inr p)) = omega (arith, ints)

greater_by : (l : ℕ) (x : ℤ) (n u : ℕ) → Stands l x n u → apart x (graded l u) ≡ apart x (graded l n) → graded l u ≤ℤ graded l n
unfolding Stands
greater_by l x n u (inl e) f = subst (λ (m : ℕ). graded l m ≤ℤ graded l n) (sym e) (omega (arith, ints))
greater_by l x n u (inr (inl p)) f = omega (arith, ints)
greater_by l x n u (inr (inr p)) f = omega (arith, ints)

-- ---- decided to the bits of the rank, and the other way round
pub decided_by : (b : ℕ) (x : ℤ) (n : ℕ) → Width b → Ranked (2 ^ b) x n → Decided b x (named b n)
decided_by b x n w r =
    record {
      among = named_below b n w r.below;
      nearest = λ u h. rw (own, level_is b u w h) (nearest_by (2 ^ b) x n (rank b u) (stands (2 ^ b) x n (rank b u) r (rank_below b u w h)));
      greater = λ u h. rw (own, level_is b u w h) (greater_by (2 ^ b) x n (rank b u) (stands (2 ^ b) x n (rank b u) r (rank_below b u w h)));
    }
  where
    own : level b (named b n) ≡ graded (2 ^ b) n
    own = level_named b n w r.below

pub ranked_by : (b : ℕ) (x : ℤ) (v : ℕ) → Width b → Decided b x v → Ranked (2 ^ b) x (rank b v)
ranked_by b x v w d = record { below = rank_below b v w d.among; low = low (rank b v) refl; high = high }
  where
    own : level b v ≡ graded (2 ^ b) (rank b v)
    own = level_is b v w d.among

    low : (n : ℕ) → rank b v ≡ n → 0 < n → pos (512 * n) ≤ℤ (x +ℤ pos (256 * 2 ^ b))
    low zero e h = absurd (omega arith)
    low (suc n) e h =
        let l : n < 2 ^ b = (let r = rank_below b v w d.among in omega arith) in
        lower (2 ^ b) n
        (subst₂ (λ (p q : ℤ). apart x p ≤ apart x q) (own ∙ ap (graded (2 ^ b)) e) (level_named b n w l) (d.nearest (named b n) (named_below b n w l)))
      where
        lower : (l m : ℕ) → apart x (graded l (suc m)) ≤ apart x (graded l m) → pos (512 * suc m) ≤ℤ (x +ℤ pos (256 * l))
        lower l m c = omega (arith, ints)

    high : rank b v + 1 < 2 ^ b → (x +ℤ pos (256 * 2 ^ b)) <ℤ pos (512 * (rank b v + 1))
    high h =
        upper (2 ^ b) (rank b v)
        (subst₂ (λ (p q : ℤ). apart x p ≤ apart x q) own (level_named b (rank b v + 1) w h) (d.nearest (named b (rank b v + 1)) (named_below b (rank b v + 1) w h)))
        (subst₂ (λ (p q : ℤ). apart x q ≡ apart x p → q ≤ℤ p) own (level_named b (rank b v + 1) w h) (d.greater (named b (rank b v + 1)) (named_below b (rank b v + 1) w h)))
      where
        upper : (l m : ℕ) → apart x (graded l m) ≤ apart x (graded l (m + 1)) → (apart x (graded l (m + 1)) ≡ apart x (graded l m) → graded l (m + 1) ≤ℤ graded l m) → (x +ℤ pos (256 * l)) <ℤ pos (512 * (m + 1))
        upper l m c g =
            elim (ℕ_discrete (apart x (graded l (m + 1))) (apart x (graded l m))) [
              | yes e ↦ (let k = g e in absurd (omega (arith, ints)))
              | no ne ↦ omega (arith, ints)
            ]

-- ---- every axis value has a rank
rank_of : ℕ → ℤ → ℕ
rank_of l (pos a) = min (l - 1) ((a + 256 * l) / 512)
rank_of l (negsuc a) = (256 * l - suc a) / 512

ranked_of : (l : ℕ) (x : ℤ) → 0 < l → Ranked l x (rank_of l x)
unfolding rank_of
ranked_of l (pos a) h = record { below = omega arith; low = λ _. omega (arith, ints); high = λ k. omega (arith, ints) }
ranked_of l (negsuc a) h = record { below = omega arith; low = λ k. omega (arith, ints); high = λ _. omega (arith, ints) }

pub decided_some : (b : ℕ) (x : ℤ) → Width b → Verdict b x
decided_some b x w = record { bits = named b (rank_of (2 ^ b) x); decided = decided_by b x (rank_of (2 ^ b) x) w (ranked_of (2 ^ b) x (one-le-pow b 2 (omega arith))) }

-- ---- a level has its own rank, and no axis value has two
graded_ranked : (l n : ℕ) → n < l → Ranked l (graded l n) n
graded_ranked l n h = record { below = h; low = λ _. omega (arith, ints); high = λ _. omega (arith, ints) }

same_rank : (l : ℕ) (x : ℤ) (m n : ℕ) → Ranked l x m → Ranked l x n → m ≡ n
same_rank l x m n p q =
    elim (dec_lt m n) [
      | yes a ↦ (let f = q.low (omega arith) in let g = p.high (let r = q.below in omega arith) in absurd (omega (arith, ints)))
      | no a ↦ elim (dec_lt n m) [
        | yes c ↦ (let f = p.low (omega arith) in let g = q.high (let r = p.below in omega arith) in absurd (omega (arith, ints)))
        | no c ↦ omega arith
      ]
    ]

pub decided_one : (b : ℕ) (x : ℤ) (u v : ℕ) → Width b → Decided b x u → Decided b x v → u ≡ v
decided_one b x u v w p q =
    sym (named_rank b u w p.among)
    ∙ ap (named b) (same_rank (2 ^ b) x (rank b u) (rank b v) (ranked_by b x u w p) (ranked_by b x v w q))
    ∙ named_rank b v w q.among

pub decided_own : (b v : ℕ) → Width b → v < 2 ^ b → Decided b (level b v) v
decided_own b v w h =
    subst₂ (λ (x : ℤ) (u : ℕ). Decided b x u) (sym (level_is b v w h)) (named_rank b v w h)
    (decided_by b (graded (2 ^ b) (rank b v)) (rank b v) w (graded_ranked (2 ^ b) (rank b v) (rank_below b v w h)))

-- ---- as the code has it, with l levels
pub decided_code : (b l : ℕ) (x : ℤ) (n : ℕ) → Width b → l ≡ 2 ^ b → Ranked l x n → Decided b x (l - 1 - bit_xor n (n / 2))
unfolding named
decided_code b l x n w e r =
    subst (λ (k : ℕ). Decided b x (k - 1 - bit_xor n (n / 2))) (sym e) (decided_by b x n w (subst (λ (k : ℕ). Ranked k x n) e r))

pub code_below : (b l : ℕ) (x : ℤ) (n : ℕ) → Width b → l ≡ 2 ^ b → Ranked l x n → bit_xor n (n / 2) ≤ l - 1
code_below b l x n w e r =
    subst (λ (k : ℕ). bit_xor n (n / 2) ≤ k - 1) (sym e) (gray_below b n w (subst (λ (k : ℕ). n < k) e r.below))

-- ---- worked cases
at : (x : ℤ) (n : ℕ) → Ranked 4 x n → Decided 2 x (named 2 n)
at x n r = decided_by 2 x n (inr (inl refl)) r

pub decision_cases : DecisionCases
unfolding named
decision_cases =
    record {
      at_0 = at (pos 0) 2 (record { below = lit< tt; low = λ _. record { le = tt }; high = λ _. record { lt = tt } });
      at_512 = at (pos 512) 3 (record { below = lit< tt; low = λ _. record { le = tt }; high = λ _. record { lt = tt } });
      at_minus_512 = at (negsuc 511) 1 (record { below = lit< tt; low = λ _. record { le = tt }; high = λ _. record { lt = tt } });
      at_minus_513 = at (negsuc 512) 0 (record { below = lit< tt; low = λ h. absurd (omega arith); high = λ _. record { lt = tt } });
    }
