-- k → j is a permutation of the places of a symbol, for every number of subchannels and every modulation.
-- Assumes nothing.
use mathlib.Core.Path.{◌≡◌, refl, sym, ◌∙◌, ap, ap₂, subst}
use mathlib.Core.Logic.{inl, inr}
use Prim.Native.Nat.{ℕ, zero, suc, ◌+◌, ◌-◌, ◌*◌, ◌/◌, ◌%◌, ◌<◌, ◌≤◌}
use native.Mathlib.Omega.{arith}
use native.Mathlib.Nat.{mul-add-div, div-eq_of_lt, mod-lt, div-add-mod, add-zero, mul_comm, mul_assoc, mul-div-mul_left, mul-div_right, div-lt_iff_lt-mul, mul-le-mul_left}
use lib.Dec.{lit<}
use Rattle.standard.specs.Profiles.{Modulation}
use Rattle.interleaver.specs.Interleaver.{size, turn, spread, turned, place, unturned, gathered, source}
use Rattle.interleaver.proofs.Turning.{group, row, there_back, back_there}

-- c is h groups of s bits
pub record Parts (c : ℕ) : Type 0 where
  pub halves : ℕ
  pub some : 0 < halves
  pub turns : 0 < turn c
  pub whole : c ≡ turn c * halves

pub parts : (c : ℕ) → Modulation c → Parts c
parts c (inl e) = subst Parts (sym e) (record { halves = 1; some = lit< tt; turns = lit< tt; whole = refl })
parts c (inr (inl e)) = subst Parts (sym e) (record { halves = 2; some = lit< tt; turns = lit< tt; whole = refl })
parts c (inr (inr (inl e))) = subst Parts (sym e) (record { halves = 2; some = lit< tt; turns = lit< tt; whole = refl })
parts c (inr (inr (inr e))) = subst Parts (sym e) (record { halves = 2; some = lit< tt; turns = lit< tt; whole = refl })

-- twelve rows of g * c places
pub size_rows : (g c : ℕ) → size g c ≡ 12 * (g * c)
size_rows g c = mul_assoc 12 g c

row_long : (g c : ℕ) → size g c / 12 ≡ g * c
row_long g c = ap (λ (x : ℕ). x / 12) (size_rows g c) ∙ mul-div_right (g * c) (lit< tt)

row_of : (g c m : ℕ) → 12 * m / size g c ≡ m / (g * c)
row_of g c m = ap (λ (x : ℕ). 12 * m / x) (size_rows g c) ∙ mul-div-mul_left m (g * c) (lit< tt)

pub spread_is : (g c k : ℕ) → spread g c k ≡ g * c * (k % 12) + k / 12
unfolding spread
spread_is g c k = ap (λ (x : ℕ). x * (k % 12) + k / 12) (row_long g c)

pub turned_is : (g c m : ℕ) → turned g c m ≡ turn c * (m / turn c) + (m + size g c - m / (g * c)) % turn c
unfolding turned
turned_is g c m = ap (λ (x : ℕ). turn c * (m / turn c) + (m + size g c - x) % turn c) (row_of g c m)

unturned_is : (g c j : ℕ) → unturned g c j ≡ turn c * (j / turn c) + (j + j / (g * c)) % turn c
unfolding unturned
unturned_is g c j = ap (λ (x : ℕ). turn c * (j / turn c) + (j + x) % turn c) (row_of g c j)

-- column q of row r
gathered_is : (g c r q : ℕ) → q < g * c → gathered g c (g * c * r + q) ≡ 12 * q + r
unfolding gathered
gathered_is g c r q h =
    ap (λ (x : ℕ). 12 * (g * c * r + q) - (size g c - 1) * x) (row_of g c (g * c * r + q) ∙ in_row)
    ∙ ap (λ (x : ℕ). 12 * (g * c * r + q) - (x - 1) * r) (size_rows g c) ∙ left (g * c) h
  where
    in_row : (g * c * r + q) / (g * c) ≡ r
    in_row = mul-add-div (let p : 0 < g * c = omega arith in p) r q ∙ ap (λ (y : ℕ). r + y) (div-eq_of_lt h) ∙ add-zero r

    left : (w : ℕ) → q < w → 12 * (w * r + q) - (12 * w - 1) * r ≡ 12 * q + r
    left zero l = absurd (omega arith)
    left (suc w) l = let e : 12 * suc w - 1 ≡ 12 * w + 11 = omega arith in rw e (omega arith)

module _ (g c : ℕ) (p : Parts c) (hg : 0 < g) where
  row_parts : g * c ≡ turn c * (p.halves * g)
  row_parts = ap (λ (x : ℕ). g * x) p.whole ∙ mul_comm g (turn c * p.halves) ∙ mul_assoc (turn c) p.halves g

  size_parts : size g c ≡ turn c * (12 * (p.halves * g))
  size_parts = let e = row_parts in let f = size_rows g c in omega arith

  c_pos : 0 < c
  c_pos = pos (turn c) p.halves c p.turns p.some p.whole
    where
      pos : (a b d : ℕ) → 0 < a → 0 < b → d ≡ a * b → 0 < d
      pos zero b d h i e = absurd (omega arith)
      pos (suc a) b d h i e = omega arith

  pub row_pos : 0 < g * c
  row_pos = pos g c hg c_pos
    where
      pos : (a b : ℕ) → 0 < a → 0 < b → 0 < a * b
      pos zero b h i = absurd (omega arith)
      pos (suc a) b h i = omega arith

  pub size_pos : 0 < size g c
  size_pos = let e = size_rows g c in let r = row_pos in omega arith

  same_row : (i j : ℕ) → i / turn c ≡ j / turn c → i / (g * c) ≡ j / (g * c)
  same_row i j e = ap (λ (x : ℕ). i / x) row_parts ∙ row (turn c) (p.halves * g) i j e ∙ sym (ap (λ (x : ℕ). j / x) row_parts)

  row_le : (m : ℕ) → m / (g * c) ≤ m
  row_le m = native.Mathlib.Nat.div-le_self m (g * c)

  -- a turn keeps the group, and so the row
  pub turned_group : (m : ℕ) → turned g c m / turn c ≡ m / turn c
  turned_group m = ap (λ (x : ℕ). x / turn c) (turned_is g c m) ∙ group (turn c) (m / turn c) (m + size g c - m / (g * c)) p.turns

  unturned_group : (j : ℕ) → unturned g c j / turn c ≡ j / turn c
  unturned_group j = ap (λ (x : ℕ). x / turn c) (unturned_is g c j) ∙ group (turn c) (j / turn c) (j + j / (g * c)) p.turns

  pub turned_row : (m : ℕ) → turned g c m / (g * c) ≡ m / (g * c)
  turned_row m = same_row (turned g c m) m (turned_group m)

  pub unturned_turned : (m : ℕ) → unturned g c (turned g c m) ≡ m
  unturned_turned m =
      unturned_is g c (turned g c m)
      ∙ ap₂ (λ (x y : ℕ). turn c * x + (turned g c m + y) % turn c) (turned_group m) (turned_row m)
      ∙ ap (λ (x : ℕ). turn c * (m / turn c) + x)
      (ap (λ (x : ℕ). (x + m / (g * c)) % turn c) (turned_is g c m ∙ ap (λ (x : ℕ). turn c * (m / turn c) + (m + x - m / (g * c)) % turn c) size_parts)
      ∙ there_back (turn c) (12 * (p.halves * g)) m (m / (g * c)) p.turns (let l = row_le m in omega arith))
      ∙ div-add-mod m (turn c)

  pub turned_unturned : (j : ℕ) → turned g c (unturned g c j) ≡ j
  turned_unturned j =
      turned_is g c (unturned g c j)
      ∙ ap₂ (λ (x y : ℕ). turn c * x + (unturned g c j + size g c - y) % turn c) (unturned_group j) (same_row (unturned g c j) j (unturned_group j))
      ∙ ap (λ (x : ℕ). turn c * (j / turn c) + x)
      (ap₂ (λ (x y : ℕ). (x + y - j / (g * c)) % turn c) (unturned_is g c j) size_parts
      ∙ back_there (turn c) (12 * (p.halves * g)) j (j / (g * c)) p.turns low)
      ∙ div-add-mod j (turn c)
    where
      low : j / (g * c) ≤ turn c * (j / turn c) + (j + j / (g * c)) % turn c + turn c * (12 * (p.halves * g))
      low = let e = ap (λ (x : ℕ). x + size g c) (unturned_is g c j) in
          let l = row_le (unturned g c j) in
          let r = same_row (unturned g c j) j (unturned_group j) in
          let z = size_parts in omega arith

  -- ---- bounds
  column : (k : ℕ) → k < size g c → k / 12 < g * c
  column k h = let e = size_rows g c in omega arith

  pub below : (m : ℕ) → (m < size g c → turned g c m < size g c) × (m < size g c → unturned g c m < size g c)
  below m = (λ h. keeps (turned g c m) (turned_row m) h, λ h. keeps (unturned g c m) (same_row (unturned g c m) m (unturned_group m)) h)
    where
      keeps : (i : ℕ) → i / (g * c) ≡ m / (g * c) → m < size g c → i < size g c
      keeps i e h =
          let z = size_rows g c in
          let a : m / (g * c) < 12 = (div-lt_iff_lt-mul row_pos).1 (let l : m < 12 * (g * c) = omega arith in l) in
          let b : i < 12 * (g * c) = (div-lt_iff_lt-mul row_pos).0 (let l : i / (g * c) < 12 = omega arith in l) in
          omega arith

  spread_below : (k : ℕ) → k < size g c → spread g c k < size g c
  spread_below k h =
      let z = size_rows g c in
      let e = spread_is g c k in
      let q = column k h in
      let r = mul-le-mul_left (g * c) (let l : k % 12 ≤ 11 = omega arith in l) in
      omega arith

  pub place_below : (k : ℕ) → k < size g c → place g c k < size g c
  unfolding place
  place_below k h = (below (spread g c k)).0 (spread_below k h)

  gathered_spread : (k : ℕ) → k < size g c → gathered g c (spread g c k) ≡ k
  gathered_spread k h =
      ap (gathered g c) (spread_is g c k) ∙ gathered_is g c (k % 12) (k / 12) (column k h)
      ∙ (let e : 12 * (k / 12) + k % 12 ≡ k = omega arith in e)

  pub source_place : (k : ℕ) → k < size g c → source g c (place g c k) ≡ k
  unfolding source place
  source_place k h = ap (gathered g c) (unturned_turned (spread g c k)) ∙ gathered_spread k h

  gathered_row : (m : ℕ) → gathered g c m ≡ 12 * (m % (g * c)) + m / (g * c)
  gathered_row m = ap (gathered g c) (sym (div-add-mod m (g * c))) ∙ gathered_is g c (m / (g * c)) (m % (g * c)) (mod-lt m row_pos)

  pub source_below : (j : ℕ) → j < size g c → source g c j < size g c
  unfolding source
  source_below j h =
      let m = unturned g c j in
      let e = gathered_row (unturned g c j) in
      let l = mod-lt (unturned g c j) row_pos in
      let z = size_rows g c in
      let b = (below j).1 h in
      let a : unturned g c j / (g * c) < 12 = (div-lt_iff_lt-mul row_pos).1 (let y : unturned g c j < 12 * (g * c) = omega arith in y) in
      omega arith

  spread_gathered : (m : ℕ) → m < size g c → spread g c (gathered g c m) ≡ m
  spread_gathered m h =
      let z = size_rows g c in
      let a : m / (g * c) < 12 = (div-lt_iff_lt-mul row_pos).1 (let y : m < 12 * (g * c) = omega arith in y) in
      let d : gathered g c m % 12 ≡ m / (g * c) = ap (λ (x : ℕ). x % 12) (gathered_row m) ∙ (let e : (12 * (m % (g * c)) + m / (g * c)) % 12 ≡ m / (g * c) = omega arith in e) in
      let q : gathered g c m / 12 ≡ m % (g * c) = ap (λ (x : ℕ). x / 12) (gathered_row m) ∙ (let e : (12 * (m % (g * c)) + m / (g * c)) / 12 ≡ m % (g * c) = omega arith in e) in
      spread_is g c (gathered g c m) ∙ ap₂ (λ (x y : ℕ). g * c * x + y) d q ∙ div-add-mod m (g * c)

  pub place_source : (j : ℕ) → j < size g c → place g c (source g c j) ≡ j
  unfolding source place
  place_source j h = ap (turned g c) (spread_gathered (unturned g c j) ((below j).1 h)) ∙ turned_unturned j

  -- the place as it is computed
  pub place_at : (s k : ℕ) → turn c ≡ s → k < size g c → place g c k ≡ (g * c * (k % 12) + k / 12) / s * s + (g * c * (k % 12) + k / 12 + size g c - k % 12) % s
  unfolding place
  place_at s k e h =
      ap (turned g c) (spread_is g c k) ∙ turned_is g c (g * c * (k % 12) + k / 12)
      ∙ ap (λ (x : ℕ). turn c * ((g * c * (k % 12) + k / 12) / turn c) + (g * c * (k % 12) + k / 12 + size g c - x) % turn c)
      (mul-add-div row_pos (k % 12) (k / 12) ∙ ap (λ (y : ℕ). k % 12 + y) (div-eq_of_lt (column k h)) ∙ add-zero (k % 12))
      ∙ ap (λ (x : ℕ). x * ((g * c * (k % 12) + k / 12) / x) + (g * c * (k % 12) + k / 12 + size g c - k % 12) % x) e
      ∙ ap (λ (x : ℕ). x + (g * c * (k % 12) + k / 12 + size g c - k % 12) % s) (mul_comm s ((g * c * (k % 12) + k / 12) / s))
