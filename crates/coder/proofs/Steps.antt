-- What each step of the chain leaves in its buffer.
-- Assumes nothing.
use Rattle.std.proofs.Common.{◌≡◌, ℕ, suc, ◌+◌, ◌*◌, ◌/◌, ◌<◌, ◌≤◌, Bool, false, cond, List, ◌++◌, length, take, get_or, set, pos, sym, refl, ap, ◌∙◌, subst, ap₂, inl, inr, add_assoc, mul_assoc, mul_comm, mul-le-mul_left, mul-suc, mul_left_comm, arith, get_or-set_other, get_or-set_same, le-ltb, lt-ltb}
use native.Mathlib.Decide.{ℕ_discrete}
use Rattle.std.proofs.lemmas.List.{get_or_append_left, get_or-take}
use Rattle.words.specs.Words.{Bits, word, flags, bits, value}
use Rattle.words.proofs.Bridge.{bits_same, value_same}
use Rattle.standard.specs.declared.order.Order.{Order}
use Rattle.standard.specs.declared.order.Request.{Request}
use Rattle.standard.specs.declared.point.Point.{Point}
use Rattle.standard.specs.declared.profile.InnerRate.{InnerRate}
use Rattle.standard.specs.declared.profile.InnerRate.TheVariants.{Half, TwoThirds, ThreeQuarters, FiveSixths}
use Rattle.standard.specs.Profiles.{Modulation, Fitting, period}
use Rattle.standard.specs.Refusals.{asked, capacity}
use Rattle.standard.proofs.Fits.{profiles_fit}
use Rattle.scrambler.specs.Scrambler.{start, scrambled}
use Rattle.scrambler.proofs.Keys.{scrambled_same}
use Rattle.outer_code.specs.Blocks.{blocks}
use Rattle.outer_code.proofs.Blocks.{blocks_same}
use Rattle.inner_code.specs.Inner.{coded}
use Rattle.inner_code.proofs.Coding.{coded_same}
use Rattle.inner_code.proofs.Rates.{rated}
use Rattle.interleaver.specs.Interleaver.{Interleaved, size}
use Rattle.interleaver.proofs.Laws.{permutation}
use Rattle.interleaver.proofs.Writing.{symbol_ends}
use Rattle.constellation.specs.Constellation.{level, point, origin}
use Rattle.coder.specs.Sending.{Sent, band, profiled, filled, message, protected, coded_bits, symbol_bits, burst_length, sent}
use Rattle.coder.proofs.Lawfulness.{sent_goes}

-- the profile of an order fits together
pub fitting : (o : Order) → Fitting (profiled (asked o))
fitting o = profiles_fit o.rate o.known

-- filled up, scrambled, and the tail written at the capacity
pub message_done : (o : Order) (d full mixed rest : List ℕ) (count register : ℕ) → count ≡ capacity o.rate o.symbols → count ≡ length mixed → count < length (mixed ++ rest) → o.symbols * (profiled (asked o)).message ≤ count + 1
    → register ≡ start o.bsid o.uiuc o.frame → ((i : ℕ) → i < count → get_or full i 0 ≡ filled d i) → ((i : ℕ) → i < count → get_or mixed i 0 ≡ scrambled register (word full) i)
    → (i : ℕ) → i < o.symbols * (profiled (asked o)).message → get_or (set (mixed ++ rest) count 0) i 0 ≡ message (asked o) d i
unfolding message
message_done o d full mixed rest count register ec em room long er f s i h =
    elim (ℕ_discrete i count) [
      | yes q ↦ ap (λ (m : ℕ). get_or (set (mixed ++ rest) count 0) m 0) q ∙ get_or-set_same (mixed ++ rest) count 0 0 room
          ∙ sym (ap (λ (b : Bool). cond b (scrambled (start o.bsid o.uiuc o.frame) (filled d) i) 0) (le-ltb i (capacity o.rate o.symbols) (omega arith)))
      | no q ↦ let l : i < count = omega arith in
          get_or-set_other (mixed ++ rest) count i 0 0 q ∙ get_or_append_left mixed rest 0 i (omega arith) ∙ s i l ∙ scrambled_same register (word full) (filled d) count f i l
          ∙ ap (λ (x : ℕ). scrambled x (filled d) i) er
          ∙ sym (ap (λ (b : Bool). cond b (scrambled (start o.bsid o.uiuc o.frame) (filled d) i) 0) (lt-ltb i (capacity o.rate o.symbols) (omega arith)))
    ]

pub blocks_done : (o : Order) (d bytes coded : List ℕ) → ((i : ℕ) → i < o.symbols * (profiled (asked o)).message → get_or bytes i 0 ≡ message (asked o) d i)
    → ((i : ℕ) → i < o.symbols * (2 * (profiled (asked o)).limit + (profiled (asked o)).message) → get_or coded i 0 ≡ blocks (profiled (asked o)).message (profiled (asked o)).limit (word bytes) i)
    → (i : ℕ) → i < o.symbols * (profiled (asked o)).block → get_or coded i 0 ≡ protected (asked o) d i
unfolding protected
blocks_done o d bytes coded m c i h =
    let f = fitting o in
    let some : 0 < (profiled (asked o)).message = omega (arith, f.some) in
    let l : i < o.symbols * (2 * (profiled (asked o)).limit + (profiled (asked o)).message) = subst (λ (n : ℕ). i < o.symbols * n) f.parity h in
    c i l ∙ blocks_same (profiled (asked o)).message (profiled (asked o)).limit some o.symbols (word bytes) (message (asked o) d) m i l

-- ---- whole periods
-- the bytes of n blocks are whole periods, and their coded bits are those of n symbols
pub record Periods (p n block c q : ℕ) : Type 0 where
  pub whole : 8 * (n * block) ≡ p * q
  pub coded : (p + 1) * q ≡ size band c * n

pub periods : (rate : InnerRate) (n block c : ℕ) → 8 * block * (period rate + 1) ≡ period rate * (192 * c) → Periods (period rate) n block c (8 * (n * block) / period rate)
periods rate n block c e = go rate e
  where
    bits : size band c * n ≡ 192 * (n * c)
    bits = mul_assoc 192 c n ∙ ap (λ (x : ℕ). 192 * x) (mul_comm c n)

    bytes : (u : ℕ) → block ≡ u * c → n * block ≡ u * (n * c)
    bytes u h = ap (λ (x : ℕ). n * x) h ∙ mul_left_comm n u c

    go : (rate : InnerRate) → 8 * block * (period rate + 1) ≡ period rate * (192 * c) → Periods (period rate) n block c (8 * (n * block) / period rate)
    go Half h = let a = bits in let b = bytes 12 (omega arith) in let q : 8 * (n * block) / 1 ≡ 96 * (n * c) = omega arith in record { whole = omega arith; coded = omega arith }
    go TwoThirds h = let a = bits in let b = bytes 16 (omega arith) in let q : 8 * (n * block) / 2 ≡ 64 * (n * c) = omega arith in record { whole = omega arith; coded = omega arith }
    go ThreeQuarters h = let a = bits in let b = bytes 18 (omega arith) in let q : 8 * (n * block) / 3 ≡ 48 * (n * c) = omega arith in record { whole = omega arith; coded = omega arith }
    go FiveSixths h = let a = bits in let b = bytes 20 (omega arith) in let q : 8 * (n * block) / 5 ≡ 32 * (n * c) = omega arith in record { whole = omega arith; coded = omega arith }

pub counted : (o : Order) → Periods (period (profiled (asked o)).inner) o.symbols (profiled (asked o)).block (profiled (asked o)).bits (8 * (o.symbols * (profiled (asked o)).block) / period (profiled (asked o)).inner)
counted o = let f = fitting o in periods (profiled (asked o)).inner o.symbols (profiled (asked o)).block (profiled (asked o)).bits f.whole

pub coded_done : (r : Request) (d blocks : List ℕ) (bs : List Bool) (count q : ℕ) → count ≡ r.symbols * (profiled r).block → 8 * (r.symbols * (profiled r).block) ≡ period (profiled r).inner * q → (period (profiled r).inner + 1) * q ≡ burst_length r
    → ((i : ℕ) → i < r.symbols * (profiled r).block → get_or blocks i 0 ≡ protected r d i)
    → ((j : ℕ) → j < (period (profiled r).inner + 1) * q → get_or bs j false ≡ coded (period (profiled r).inner) (bits (word (take count blocks))) j)
    → (j : ℕ) → j < burst_length r → get_or bs j false ≡ coded_bits r d j
unfolding coded_bits
coded_done r d blocks bs count q n whole all b c j h =
    let l : j < (period (profiled r).inner + 1) * q = subst (λ (n : ℕ). j < n) (sym all) h in
    c j l
    ∙ coded_same (period (profiled r).inner) q (bits (word (take count blocks))) (bits (protected r d)) (rated (profiled r).inner)
    (λ k m. bits_same (word (take count blocks)) (protected r d) (r.symbols * (profiled r).block) (λ i l. get_or-take count blocks i 0 (omega arith) ∙ b i l) k (subst (λ (n : ℕ). k < n) (sym whole) m)) j l

-- ---- the order sent
pub sent_done : (o : Order) (d : List ℕ) (bs out : List Bool) → ((j : ℕ) → j < burst_length (asked o) → get_or bs j false ≡ coded_bits (asked o) d j)
    → Interleaved band (profiled (asked o)).bits o.symbols (flags bs) (flags out) → (j : ℕ) → j < burst_length (asked o) → get_or out j false ≡ sent (asked o) d j
sent_done o d bs out c i j h =
    let f = fitting o in
    permutation.sent_by_coded band (profiled (asked o)).bits o.symbols (coded_bits (asked o) d) (flags out) (sent (asked o) d) (omega arith) f.modulation
    (record { goes = λ b k hb hk. i.goes b k hb hk ∙ c (symbol_bits (asked o) * b + k) (in_burst b k hb hk) }) (sent_goes (asked o) d f.modulation) j h
  where
    in_burst : (b k : ℕ) → b < o.symbols → k < symbol_bits (asked o) → symbol_bits (asked o) * b + k < burst_length (asked o)
    in_burst b k hb hk = let e = symbol_ends (symbol_bits (asked o)) b o.symbols hb in omega arith

-- ---- points
abbrev in_line : ℕ → Point
in_line v = record { i = level 1 v; q = pos 0 }

abbrev level_pair : ℕ → ℕ → ℕ → Point
level_pair w v u = record { i = level w v; q = level w u }

module _ (a b : Bits) (t : ℕ) where
  Alike : ℕ → Type 0
  Alike c = (u : ℕ) → u < c → a (c * t + u) ≡ b (c * t + u)

  same_half : (c w : ℕ) → w + w ≡ c → Alike c → (value w (λ u. a (c * t + u)) ≡ value w (λ u. b (c * t + u))) × (value w (λ u. a (c * t + w + u)) ≡ value w (λ u. b (c * t + w + u)))
  unfolding Alike
  same_half c w e h = (
    value_same w (λ u. a (c * t + u)) (λ u. b (c * t + u)) (λ u l. h u (omega arith)),
    value_same w (λ u. a (c * t + w + u)) (λ u. b (c * t + w + u)) (λ u l. ap a (add_assoc (c * t) w u) ∙ h (w + u) (omega arith) ∙ ap b (sym (add_assoc (c * t) w u))),
  )

  -- a point is known from its carrier's bits
  pub point_same : (c : ℕ) → Modulation c → ((u : ℕ) → u < c → a (c * t + u) ≡ b (c * t + u)) → point c a t ≡ point c b t
  unfolding Alike
  point_same c (inl e) = subst (λ (c : ℕ). Alike c → point c a t ≡ point c b t) (sym e) (λ h. ap in_line (value_same 1 (λ u. a (1 * t + u)) (λ u. b (1 * t + u)) (λ u l. h u l)))
  point_same c (inr (inl e)) = subst (λ (c : ℕ). Alike c → point c a t ≡ point c b t) (sym e) (λ h. let s = same_half 2 1 refl h in ap₂ (λ (x y : ℕ). level_pair 1 x y) s.0 s.1)
  point_same c (inr (inr (inl e))) = subst (λ (c : ℕ). Alike c → point c a t ≡ point c b t) (sym e) (λ h. let s = same_half 4 2 refl h in ap₂ (λ (x y : ℕ). level_pair 2 x y) s.0 s.1)
  point_same c (inr (inr (inr e))) = subst (λ (c : ℕ). Alike c → point c a t ≡ point c b t) (sym e) (λ h. let s = same_half 6 3 refl h in ap₂ (λ (x y : ℕ). level_pair 3 x y) s.0 s.1)

pub points_done : (o : Order) (d : List ℕ) (bs : List Bool) (points : List Point) → length points ≡ 192 * o.symbols → ((j : ℕ) → j < burst_length (asked o) → get_or bs j false ≡ sent (asked o) d j)
    → ((t : ℕ) → t < length points → get_or points t origin ≡ point (profiled (asked o)).bits (flags bs) t) → Sent (asked o) d points
points_done o d bs points e s p =
    record {
      count = e;
      point = λ t h. p t (subst (λ (n : ℕ). t < n) (sym e) h) ∙ point_same (flags bs) (sent (asked o) d) t (profiled (asked o)).bits (fitting o).modulation (λ u l. s ((profiled (asked o)).bits * t + u) (in_burst (profiled (asked o)).bits t u h l));
    }
  where
    in_burst : (c t u : ℕ) → t < 192 * o.symbols → u < c → c * t + u < size band c * o.symbols
    in_burst c t u h l =
        let a = mul-le-mul_left c h in
        let b : c * (192 * o.symbols) ≡ size band c * o.symbols = sym (mul_assoc c 192 o.symbols) ∙ ap (λ (x : ℕ). x * o.symbols) (mul_comm c 192) in
        let e : c * suc t ≡ c * t + c = mul-suc c t in
        omega arith
