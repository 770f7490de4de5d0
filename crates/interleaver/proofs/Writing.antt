-- The steps of the loops that interleave, and of those that undo it: bit k is read at from k and written at to k.
-- Assumes nothing.
use mathlib.Core.Path.{◌≡◌, refl, sym, ◌∙◌, ap, ap₂, subst, subst₂}
use mathlib.Core.Logic.{◌⊎◌, inl, inr, ◌≢◌}
use mathlib.Core.Bool.{Bool, false}
use mathlib.Core.List.{List}
use Prim.Native.Nat.{ℕ, zero, suc, ◌+◌, ◌-◌, ◌*◌, ◌/◌, ◌%◌, ◌<◌, ◌≤◌}
use native.Mathlib.Omega.{arith}
use native.Mathlib.Decide.{dec_lt, ℕ_discrete}
use native.Mathlib.Nat.{div-add-mod, lt_of_mul-lt-mul_left, mul-suc, mul-le-mul_left, mul-mod_right, mod-eq_of_lt, add-mul-mod_self_left, add-mod_right, add-div_right}
use native.Mathlib.Numerals.{unary_clauses}
use lib.ListN.{length, set}
use lib.Seq.{get_or-set_same, get_or-set_other}
use Rattle.words.specs.Words.{Bits, flags}
use Rattle.standard.specs.Profiles.{Modulation}
use Rattle.standard.specs.Modulations.{carrier_bits}
use Rattle.standard.proofs.Modulations.{modulated}
use Rattle.interleaver.specs.declared.Interleaver.{Interleaver}
use Rattle.interleaver.specs.declared.steps.Way.{Way}
use Rattle.interleaver.specs.declared.steps.Way.TheVariants.{Forth, Back}
use Rattle.interleaver.specs.Interleaver.{size, turn, place}
use Rattle.interleaver.specs.Symbols.{symbol}
use Rattle.interleaver.specs.Steps.{from, to, stride, Kept, Symbol, Symbols}
use Rattle.interleaver.proofs.Permutation.{parts, size_rows, place_below, place_at}
use Rattle.interleaver.proofs.Laws.{injective}

-- ---- strides
pub turn_pos : (c : ℕ) → 0 < turn c
turn_pos c = omega arith

-- two places of one run that are less than a stride apart are one
same_of_run : (n i k : ℕ) → i % n ≡ k % n → k ≤ i → i < k + n → i ≡ k
same_of_run n i k e l h =
    let a = div-add-mod i n in
    let b = div-add-mod k n in
    let p = mul-suc n (k / n) in
    let q = mul-suc n (i / n) in
    let u : i / n < suc (k / n) = lt_of_mul-lt-mul_left n (let z : n * (i / n) < n * suc (k / n) = omega arith in z) in
    let v : k / n < suc (i / n) = lt_of_mul-lt-mul_left n (let z : n * (k / n) < n * suc (i / n) = omega arith in z) in
    let w : i / n ≡ k / n = omega arith in
    sym a ∙ ap₂ (λ (x y : ℕ). n * x + y) w e ∙ b

-- a stride on, the place is a turn on
strided : (s w n k : ℕ) → 0 < s → k < n
    → (w * ((k + 12 * s) % 12) + (k + 12 * s) / 12) / s * s + (w * ((k + 12 * s) % 12) + (k + 12 * s) / 12 + n - (k + 12 * s) % 12) % s
    ≡ (w * (k % 12) + k / 12) / s * s + (w * (k % 12) + k / 12 + n - k % 12) % s + s
strided s w n k hs h =
    ap₂ (λ (r q : ℕ). (w * r + q) / s * s + (w * r + q + n - r) % s) (let e : (k + 12 * s) % 12 ≡ k % 12 = omega arith in e) (let e : (k + 12 * s) / 12 ≡ k / 12 + s = omega arith in e)
    ∙ ap₂ (λ (x y : ℕ). x / s * s + y % s) (let e : w * (k % 12) + (k / 12 + s) ≡ w * (k % 12) + k / 12 + s = omega arith in e)
    (let e : w * (k % 12) + (k / 12 + s) + n - k % 12 ≡ w * (k % 12) + k / 12 + n - k % 12 + s = omega arith in e)
    ∙ ap₂ (λ (x y : ℕ). x * s + y) (add-div_right (w * (k % 12) + k / 12) hs) (add-mod_right (w * (k % 12) + k / 12 + n - k % 12) s)
    ∙ one_more ((w * (k % 12) + k / 12) / s) ((w * (k % 12) + k / 12 + n - k % 12) % s)
  where
    one_more : (x y : ℕ) → (x + 1) * s + y ≡ x * s + y + s
    one_more x y = omega arith

pub place_strided : (g c k : ℕ) → 0 < g → Modulation c → k + stride c < size g c → place g c (k + stride c) ≡ place g c k + turn c
place_strided g c k hg m h =
    let l : k < size g c = less (turn c) (size g c) h in
    place_at g c (parts c m) hg (turn c) (k + stride c) refl h
    ∙ strided (turn c) (g * c) (size g c) k (turn_pos c) l
    ∙ ap (λ (x : ℕ). x + turn c) (sym (place_at g c (parts c m) hg (turn c) k refl l))
  where
    less : (s n : ℕ) → k + 12 * s < n → k < n
    less s n h = omega arith

-- ---- one bit is written
-- different bits of n go to different places of n
pub record Into (n : ℕ) (to : ℕ → ℕ) : Type 0 where
  pub below : (k : ℕ) → k < n → to k < n
  pub one : (k l : ℕ) → k < n → l < n → to k ≡ to l → k ≡ l

pub into_place : (g c : ℕ) → 0 < g → Modulation c → Into (size g c) (place g c)
into_place g c hg m = record { below = place_below g c (parts c m) hg; one = λ k l. injective g c k l hg m }

pub into_own : (n : ℕ) → Into n (λ k. k)
into_own n = record { below = λ k h. h; one = λ k l h i e. e }

module _ (n base : ℕ) (to : ℕ → ℕ) (p : Into n to) (xs : List Bool) (k : ℕ) (v : Bool) (hk : k < n) where
  write_same : base + n ≤ length xs → flags (set xs (base + to k) v) (base + to k) ≡ v
  write_same l =
      get_or-set_same xs (base + to k) v false
      (let b = p.below k hk in let z : base + to k < length xs = omega arith in z)

  write_other : (i : ℕ) → i < n → i ≢ k → flags (set xs (base + to k) v) (base + to i) ≡ flags xs (base + to i)
  write_other i hi ne =
      get_or-set_other xs (base + to k) (base + to i) v false
      (λ e. ne (p.one i k hi hk (let z : to i ≡ to k = omega arith in z)))

  write_kept : (j : ℕ) → (j < base) ⊎ (base + n ≤ j) → flags (set xs (base + to k) v) j ≡ flags xs j
  write_kept j h =
      get_or-set_other xs (base + to k) j v false (apart (to k) (p.below k hk) h)
    where
      apart : (x : ℕ) → x < n → (j < base) ⊎ (base + n ≤ j) → j ≢ base + x
      apart x l (inl a) e = omega arith
      apart x l (inr a) e = omega arith

-- ---- one run
-- the first n bits of the run are written
pub record RunTo (g c base first n : ℕ) (from to : ℕ → ℕ) (word before now : Bits) : Type 0 where
  pub goes : (i : ℕ) → i < first + stride c * n → i < size g c → i % stride c ≡ first → now (base + to i) ≡ word (base + from i)
  pub others : (i : ℕ) → i < size g c → (i % stride c ≡ first → ⊥) → now (base + to i) ≡ before (base + to i)
  pub kept : Kept g c base before now

-- a run has as many bits as a row has groups
pub run_within : (g c first t : ℕ) → first < stride c → t < g * c / turn c → first + stride c * t < size g c
run_within g c first t h l =
    let a = div-add-mod (g * c) (turn c) in
    let b = mul-le-mul_left (turn c) l in
    let e = mul-suc (turn c) t in
    let z = size_rows g c in
    let w = native.Mathlib.Nat.mul_assoc 12 (turn c) t in
    omega arith

pub place_run : (g c first t : ℕ) → 0 < g → Modulation c → first + stride c * t < size g c → place g c (first + stride c * t) ≡ place g c first + turn c * t
place_run g c first zero hg m h = simp unary_clauses refl
place_run g c first (suc t) hg m h =
    let e : first + stride c * suc t ≡ first + stride c * t + stride c = let f = mul-suc (stride c) t in omega arith in
    let l : first + stride c * t + stride c < size g c = subst (λ (n : ℕ). n < size g c) e h in
    ap (place g c) e ∙ place_strided g c (first + stride c * t) hg m l
    ∙ ap (λ (j : ℕ). j + turn c) (place_run g c first t hg m (omega arith))
    ∙ (let f = mul-suc (turn c) t in omega arith)

module _ (g c base first t : ℕ) (from to : ℕ → ℕ) (word before : Bits) (xs : List Bool) (hf : first < stride c) (ht : t < g * c / turn c) (l : base + size g c ≤ length xs) (p : Into (size g c) to)
    (r : RunTo g c base first t from to word before (flags xs)) where
  abbrev k : ℕ
  k = first + stride c * t

  hk : k < size g c
  hk = run_within g c first t hf ht

  phase : k % stride c ≡ first
  phase = add-mul-mod_self_left first (stride c) t ∙ mod-eq_of_lt hf

  -- as the loop has it: the bit goes from place x to place y
  pub run_more : (x y : ℕ) → x ≡ from k → y ≡ to k → RunTo g c base first (t + 1) from to word before (flags (set xs (base + y) (word (base + x))))
  run_more x y ex ey =
      subst₂ (λ (a b : ℕ). RunTo g c base first (t + 1) from to word before (flags (set xs (base + b) (word (base + a))))) (sym ex) (sym ey)
      (record {
        goes = λ i h hi q. elim (ℕ_discrete i k) [
          | yes e ↦ subst (λ (x : ℕ). flags (set xs (base + to k) v) (base + to x) ≡ word (base + from x)) (sym e) (write_same (size g c) base to p xs k v hk l)
          | no ne ↦ write_other (size g c) base to p xs k v hk i hi ne
              ∙ r.goes i (earlier i h ne (q ∙ sym phase)) hi q
        ];
        others = λ i hi q. write_other (size g c) base to p xs k v hk i hi (λ e. q (ap (λ (x : ℕ). x % stride c) e ∙ phase)) ∙ r.others i hi q;
        kept = λ i h. write_kept (size g c) base to p xs k v hk i h ∙ r.kept i h;
      })
    where
      v : Bool
      v = word (base + from k)

      earlier : (i : ℕ) → i < first + stride c * (t + 1) → i ≢ k → i % stride c ≡ k % stride c → i < k
      earlier i h ne e =
          elim (dec_lt i k) [
            | yes q ↦ q
            | no q ↦ absurd (ne (same_of_run (stride c) i k e (omega arith) (let f = mul-suc (stride c) t in omega arith)))
          ]

-- ---- one symbol
-- the runs before a first one are written
pub record RunsTo (g c base first : ℕ) (from to : ℕ → ℕ) (word before now : Bits) : Type 0 where
  pub goes : (k : ℕ) → k < size g c → k % stride c < first → now (base + to k) ≡ word (base + from k)
  pub kept : Kept g c base before now

-- ---- all symbols
-- symbol b ends before symbol n starts
pub symbol_ends : (w b n : ℕ) → b < n → w * b + w ≤ w * n
symbol_ends w b n h = let e = mul-le-mul_left w h in let f = mul-suc w b in omega arith

-- the twelve rows of a symbol, as the loop has them
pub base_at : (g c n w base : ℕ) → w ≡ g * c → base ≡ 12 * w * n → base ≡ size g c * n
base_at g c n w base ew e = e ∙ ap (λ (x : ℕ). 12 * x * n) ew ∙ ap (λ (x : ℕ). x * n) (sym (size_rows g c))

pub symbols_more : (g c n base : ℕ) (from to : ℕ → ℕ) (word before mid now : Bits) → Into (size g c) to → Symbols g c n from to word before mid → Symbol g c base from to word mid now → base ≡ size g c * n
    → Symbols g c (n + 1) from to word before now
symbols_more g c n base from to word before mid now p w one eb =
    let r = subst (λ (k : ℕ). Symbol g c k from to word mid now) eb one in
    record {
      goes = λ b k hb hk. elim (ℕ_discrete b n) [
        | yes e ↦ subst (λ (x : ℕ). now (size g c * x + to k) ≡ word (size g c * x + from k)) (sym e) (r.goes k hk)
        | no e ↦ r.kept (size g c * b + to k) (inl (within (size g c) b (to k) (p.below k hk) (let z : b < n = omega arith in z))) ∙ w.goes b k (omega arith) hk
      ];
      rest = λ j h. r.kept j (inr (past (size g c) j h)) ∙ w.rest j (from_start (size g c) j h);
    }
  where
    within : (a b x : ℕ) → x < a → b < n → a * b + x < a * n
    within a b x h l = let e = symbol_ends a b n l in omega arith

    past : (a j : ℕ) → a * (n + 1) ≤ j → a * n + a ≤ j
    past a j h = omega arith

    from_start : (a j : ℕ) → a * (n + 1) ≤ j → a * n ≤ j
    from_start a j h = omega arith

-- ---- both ways
pub into_way : (w : Way) (x : Interleaver) → Into (symbol x) (to w x)
into_way Forth x = into_place x.subchannels (carrier_bits x.modulation) x.some (modulated x.modulation)
into_way Back x = into_own (symbol x)

from_below : (w : Way) (x : Interleaver) (k : ℕ) → k < symbol x → from w x k < symbol x
from_below Forth x k h = h
from_below Back x k h = (into_way Forth x).below k h

-- bit t of a run, which is k, is read at place a and written at place b
pub record Moved (w : Way) (x : Interleaver) (t k a b : ℕ) : Type 0 where
  pub one : t < x.subchannels * carrier_bits x.modulation / turn (carrier_bits x.modulation)
  pub read : a ≡ from w x k
  pub written : b ≡ to w x k
  pub read_within : a < symbol x
  pub written_within : b < symbol x

module _ (w : Way) (x : Interleaver) (first t : ℕ) where
  abbrev g : ℕ
  g = x.subchannels

  abbrev c : ℕ
  c = carrier_bits x.modulation

  -- as the loop has it: s is the turn, r the bits of a row, and p the place of the run's first bit
  pub run_moved : (s r p a b : ℕ) → first < stride c → t < r / s → s ≡ turn c → r ≡ g * c → p ≡ place g c first
      → ((y : Interleaver) → p + s * t ≡ place y.subchannels (carrier_bits y.modulation) (first + 12 * s * t) → a ≡ from w y (first + 12 * s * t))
      → ((y : Interleaver) → p + s * t ≡ place y.subchannels (carrier_bits y.modulation) (first + 12 * s * t) → b ≡ to w y (first + 12 * s * t))
      → Moved w x t (first + stride c * t) a b
  run_moved s r p a b hf ht es er ep fa fb =
      record {
        one = bit;
        read = ea;
        written = eb;
        read_within = subst (λ (n : ℕ). n < symbol x) (sym ea) (from_below w x (first + stride c * t) hk);
        written_within = subst (λ (n : ℕ). n < symbol x) (sym eb) ((into_way w x).below (first + stride c * t) hk);
      }
    where
      bit : t < g * c / turn c
      bit = subst₂ (λ (m n : ℕ). t < m / n) er es ht

      hk : first + stride c * t < size g c
      hk = run_within g c first t hf bit

      ek : first + 12 * s * t ≡ first + stride c * t
      ek = ap (λ (n : ℕ). first + 12 * n * t) es

      ej : p + s * t ≡ place g c (first + 12 * s * t)
      ej = ap₂ (λ (m n : ℕ). m + n * t) ep es ∙ sym (place_run g c first t x.some (modulated x.modulation) hk) ∙ sym (ap (place g c) ek)

      ea : a ≡ from w x (first + stride c * t)
      ea = fa x ej ∙ ap (from w x) ek

      eb : b ≡ to w x (first + stride c * t)
      eb = fb x ej ∙ ap (to w x) ek
