-- Where the coded bits of the periods stand.
-- Assumes nothing.
use mathlib.Core.Path.{◌≡◌, refl, sym, ap, ◌∙◌}
use mathlib.Core.Bool.{Bool, false}
use mathlib.Core.Logic.{◌≢◌, ⊎_elim}
use mathlib.Core.List.{List}
use Prim.Native.Nat.{ℕ, zero, suc, ◌+◌, ◌*◌, ◌/◌, ◌%◌, ◌<◌, ◌≤◌}
use native.Mathlib.Omega.{arith}
use native.Mathlib.Nat.{add-zero, mul_comm, mul-suc, mul-le-mul_left, add-mul, one-mul, eq-or-lt_of_le}
use lib.ListN.{get_or, length, set, take}
use lib.Seq.{get_or-set_same, get_or-set_other, get_or-take}
use lib.Arith.{digits_mod}
use Rattle.words.specs.Words.{Bits}
use Rattle.standard.specs.Profiles.{period, punctured}
use Rattle.standard.specs.declared.profile.InnerRate.{InnerRate}
use Rattle.standard.specs.declared.profile.InnerRate.TheVariants.{Half, TwoThirds, ThreeQuarters, FiveSixths}
use Rattle.standard.specs.declared.profile.Coded.{Coded}
use Rattle.standard.specs.declared.profile.Coded.TheVariants.{X1}
use Rattle.inner_code.specs.Inner.{x, y, pattern, coded, Rated, half, two_thirds, three_quarters, five_sixths}
use Rattle.inner_code.proofs.Coding.{located}
use Rattle.inner_code.proofs.Rates.{rated}
use Rattle.inner.specs.Outputs.{kept}

-- period q is one of n periods
pub record Among (p n q : ℕ) : Type 0 where
  pub inputs : p * q + p ≤ p * n
  pub outputs : (p + 1) * q + (p + 1) ≤ (p + 1) * n
  pub more : (p + 1) * q ≡ p * q + q

stride : (s n q : ℕ) → q < n → s * q + s ≤ s * n
stride s n q h = let m : suc q ≤ n = omega arith in omega (arith, mul-suc s q, mul-le-mul_left s m)

pub among : (p n q : ℕ) → q < n → Among p n q
among p n q h = record { inputs = stride p n q h; outputs = stride (p + 1) n q h; more = add-mul p 1 q ∙ ap (λ (z : ℕ). p * q + z) (one-mul q) }

-- the first n periods have f at bit i, and no other place is changed
pub record Spread (p i n : ℕ) (f : ℕ → Bool) (old new : List Bool) : Type 0 where
  pub spread : (q : ℕ) → q < n → get_or new ((p + 1) * q + i) false ≡ f q
  pub rest : (j : ℕ) → ((q : ℕ) → q < n → j ≡ (p + 1) * q + i → ⊥) → get_or new j false ≡ get_or old j false

pub spread_more : (p i n : ℕ) (f : ℕ → Bool) (old new : List Bool) (b : Bool) → (p + 1) * n + i < length new → b ≡ f n → Spread p i n f old new → Spread p i (n + 1) f old (set new ((p + 1) * n + i) b)
spread_more p i n f old new b long e s =
    record {
      spread = λ q l. ⊎_elim
          (λ (m : q ≡ n). ap (λ (z : ℕ). get_or (set new ((p + 1) * n + i) b) ((p + 1) * z + i) false) m ∙ get_or-set_same new ((p + 1) * n + i) b false long ∙ e ∙ ap f (sym m))
          (λ (m : q < n).
          let a = among p n q m in
          let ne : (p + 1) * q + i ≢ (p + 1) * n + i = omega (arith, a.outputs) in
          get_or-set_other new ((p + 1) * n + i) ((p + 1) * q + i) b false ne ∙ s.spread q m)
          (eq-or-lt_of_le (let m : q ≤ n = omega arith in m));
      rest = λ j h.
          let ne : j ≢ (p + 1) * n + i = h n (omega arith) in
          get_or-set_other new ((p + 1) * n + i) j b false ne ∙ s.rest j (λ q l. h q (omega arith));
    }

-- ---- the puncturing tables
pub punctured_long : (r : InnerRate) → length (punctured r) ≡ period r + 1
punctured_long Half = refl
punctured_long TwoThirds = refl
punctured_long ThreeQuarters = refl
punctured_long FiveSixths = refl

-- the first m entries of a table have filled their place of n periods, and nothing past the periods is changed
pub record Filled (table : List Coded) (p n m : ℕ) (x y : Bits) (old new : List Bool) : Type 0 where
  pub filled : (q i : ℕ) → q < n → i < m → get_or new ((p + 1) * q + i) false ≡ kept x y (p * q) (get_or table i X1)
  pub past : (j : ℕ) → (p + 1) * n ≤ j → get_or new j false ≡ get_or old j false

-- coded bits of other entries stand apart
apart : (p q i q' i' : ℕ) → i < p + 1 → i' < p + 1 → (p + 1) * q + i ≡ (p + 1) * q' + i' → i ≡ i'
apart p q i q' i' l m e =
    sym (digits_mod q l)
    ∙ ap (λ (z : ℕ). (z + i) % (p + 1)) (mul_comm q (p + 1))
    ∙ ap (λ (z : ℕ). z % (p + 1)) e
    ∙ ap (λ (z : ℕ). (z + i') % (p + 1)) (mul_comm (p + 1) q')
    ∙ digits_mod q' m

pub filled_more : (table : List Coded) (p n m : ℕ) (x y : Bits) (f : ℕ → Bool) (old mid new : List Bool) → m ≤ p
    → ((q : ℕ) → f q ≡ kept x y (p * q) (get_or table m X1)) → Spread p m n f mid new
    → Filled table p n m x y old mid → Filled table p n (m + 1) x y old new
filled_more table p n m x y f old mid new l e s h =
    record {
      filled = λ q i a b. ⊎_elim
          (λ (o : i ≡ m). ap (λ (z : ℕ). get_or new ((p + 1) * q + z) false) o ∙ s.spread q a ∙ e q ∙ ap (λ (z : ℕ). kept x y (p * q) (get_or table z X1)) (sym o))
          (λ (o : i < m).
          s.rest ((p + 1) * q + i) (λ q' c d. let g = apart p q i q' m (omega arith) (omega arith) d in omega arith)
          ∙ h.filled q i a o)
          (eq-or-lt_of_le (let o : i ≤ m = omega arith in o));
      past = λ j a. s.rest j (λ q c d. let g = among p n q c in omega arith) ∙ h.past j a;
    }

-- ---- coded bits
-- each table begins the longest
begins : (r : InnerRate) → punctured r ≡ take (period r + 1) (punctured FiveSixths)
begins Half = refl
begins TwoThirds = refl
begins ThreeQuarters = refl
begins FiveSixths = refl

-- an entry keeps its bit of the pattern
at_entry : (u a b : Bits) (p k n i : ℕ) → ((t : ℕ) → t < n → a t ≡ x u t) → ((t : ℕ) → t < n → b t ≡ y u t) → 0 < p → k + p ≤ n → i ≤ p → i < 6 → kept a b k (get_or (punctured FiveSixths) i X1) ≡ get_or (pattern u k) i false
at_entry u a b p k n zero f g o l m e = f (k + 0) (omega arith) ∙ ap (x u) (add-zero k)
at_entry u a b p k n (suc zero) f g o l m e = g (k + 0) (omega arith) ∙ ap (y u) (add-zero k)
at_entry u a b p k n (suc (suc zero)) f g o l m e = g (k + 1) (omega arith)
at_entry u a b p k n (suc (suc (suc zero))) f g o l m e = f (k + 2) (omega arith)
at_entry u a b p k n (suc (suc (suc (suc zero)))) f g o l m e = g (k + 3) (omega arith)
at_entry u a b p k n (suc (suc (suc (suc (suc zero))))) f g o l m e = f (k + 4) (omega arith)
at_entry u a b p k n (suc (suc (suc (suc (suc (suc i)))))) f g o l m e = absurd (omega arith)

longest : (p : ℕ) → Rated p → p < 6
longest p half = omega arith
longest p two_thirds = omega arith
longest p three_quarters = omega arith
longest p five_sixths = omega arith

pub encoded : (r : InnerRate) (u a b : Bits) (n : ℕ) (new : List Bool)
    → ((t : ℕ) → t < period r * n → a t ≡ x u t) → ((t : ℕ) → t < period r * n → b t ≡ y u t)
    → ((q i : ℕ) → q < n → i ≤ period r → get_or new ((period r + 1) * q + i) false ≡ kept a b (period r * q) (get_or (punctured r) i X1))
    → (j : ℕ) → j < (period r + 1) * n → get_or new j false ≡ coded (period r) u j
unfolding coded
encoded r u a b n new f g h j l =
    let s = located (period r) n j (rated r) l in
    let m = longest (period r) (rated r) in
    let o : j % (period r + 1) < period r + 1 = omega (arith, s.place) in
    ap (λ (z : ℕ). get_or new z false) (sym s.split)
    ∙ h (j / (period r + 1)) (j % (period r + 1)) s.within s.place
    ∙ ap (kept a b (period r * (j / (period r + 1)))) (ap (λ (t : List Coded). get_or t (j % (period r + 1)) X1) (begins r) ∙ get_or-take (period r + 1) (punctured FiveSixths) (j % (period r + 1)) X1 o)
    ∙ at_entry u a b (period r) (period r * (j / (period r + 1))) (period r * n) (j % (period r + 1)) f g s.some s.period s.place (omega (arith, s.place))
