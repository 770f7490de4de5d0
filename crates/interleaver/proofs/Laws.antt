-- The laws of the interleaver as its public functions promise them, and the steps of its loops.
-- Assumes nothing.
use mathlib.Core.Path.{◌≡◌, sym, ◌∙◌, ap, subst}
use mathlib.Core.Logic.{inl, inr, ◌≢◌}
use Prim.Native.Nat.{ℕ, ◌+◌, ◌-◌, ◌*◌, ◌/◌, ◌%◌, ◌<◌}
use native.Mathlib.Omega.{arith}
use native.Mathlib.Nat.{div-add-mod, mod-lt, div-lt_iff_lt-mul, mul_comm}
use Rattle.words.specs.Words.{Bits}
use Rattle.standard.specs.Profiles.{Modulation}
use Rattle.interleaver.specs.Interleaver.{size, turn, place, source, Interleaved, Permutation}
use Rattle.interleaver.proofs.Permutation.{parts, size_rows, size_pos, place_below, source_below, source_place, place_source, place_at}

pub injective : (g c k l : ℕ) → 0 < g → Modulation c → k < size g c → l < size g c → place g c k ≡ place g c l → k ≡ l
injective g c k l hg m hk hl e =
    sym (source_place g c (parts c m) hg k hk) ∙ ap (source g c) e ∙ source_place g c (parts c m) hg l hl

-- what holds at every place of n symbols of w places holds at every place below w * n
by_symbol : (w n : ℕ) (P : ℕ → Type 0) → 0 < w → ((b k : ℕ) → b < n → k < w → P (w * b + k)) → (j : ℕ) → j < w * n → P j
by_symbol w n P hw h j l =
    subst P (div-add-mod j w)
    (h (j / w) (j % w) ((div-lt_iff_lt-mul hw).1 (subst (λ (x : ℕ). j < x) (mul_comm w n) l)) (mod-lt j hw))

pub permutation : Permutation
permutation =
    record {
      below = λ g c k hg m h. place_below g c (parts c m) hg k h;
      back_below = λ g c j hg m h. source_below g c (parts c m) hg j h;
      there_back = λ g c k hg m h. source_place g c (parts c m) hg k h;
      back_there = λ g c j hg m h. place_source g c (parts c m) hg j h;
      sent_by_coded = λ g c n coded a b hg m p q.
          by_symbol (size g c) n (λ j. a j ≡ b j) (size_pos g c (parts c m) hg) (sent g c n coded a b hg m p q);
      coded_by_sent = λ g c n a b s hg m p q.
          by_symbol (size g c) n (λ k. a k ≡ b k) (size_pos g c (parts c m) hg) (λ i k hi hk. sym (p.goes i k hi hk) ∙ q.goes i k hi hk);
    }
  where
    sent : (g c n : ℕ) (coded a b : Bits) → 0 < g → Modulation c → Interleaved g c n coded a → Interleaved g c n coded b
        → (i j : ℕ) → i < n → j < size g c → a (size g c * i + j) ≡ b (size g c * i + j)
    sent g c n coded a b hg m p q i j hi hj =
        subst (λ (x : ℕ). a (size g c * i + x) ≡ b (size g c * i + x)) (place_source g c (parts c m) hg j hj)
        (let hk = source_below g c (parts c m) hg j hj in p.goes i (source g c j) hi hk ∙ sym (q.goes i (source g c j) hi hk))

-- ---- the place as it is computed
pub placed_by : (s w g c k : ℕ) → s ≡ turn c → w ≡ g * c → 0 < g → Modulation c → k < size g c → (w * (k % 12) + k / 12) / s * s + (w * (k % 12) + k / 12 + 12 * w - k % 12) % s ≡ place g c k
placed_by s w g c k es ew hg m h =
    subst (λ (x : ℕ). (x * (k % 12) + k / 12) / s * s + (x * (k % 12) + k / 12 + 12 * x - k % 12) % s ≡ place g c k) (sym ew)
    (subst (λ (n : ℕ). (g * c * (k % 12) + k / 12) / s * s + (g * c * (k % 12) + k / 12 + n - k % 12) % s ≡ place g c k) (size_rows g c) (sym (place_at g c (parts c m) hg s k (sym es) h)))

-- where the turn is neither 3 nor 2 it is 1, and nothing is turned
pub placed_plain : (s w g c k : ℕ) → s ≡ turn c → s ≢ 3 → s ≢ 2 → w ≡ g * c → 0 < g → Modulation c → k < size g c → w * (k % 12) + k / 12 ≡ place g c k
placed_plain s w g c k es n3 n2 ew hg m h =
    (let q : w * (k % 12) + k / 12 ≡ (w * (k % 12) + k / 12) / 1 * 1 + (w * (k % 12) + k / 12 + 12 * w - k % 12) % 1 = omega arith in q)
    ∙ placed_by 1 w g c k (one c m es) ew hg m h
  where
    one : (c : ℕ) → Modulation c → s ≡ turn c → 1 ≡ turn c
    one c (inl e) q = sym (ap turn e)
    one c (inr (inl e)) q = sym (ap turn e)
    one c (inr (inr (inl e))) q = absurd (n2 (q ∙ ap turn e))
    one c (inr (inr (inr e))) q = absurd (n3 (q ∙ ap turn e))
