-- The laws of the field.
-- Assumes nothing.
use mathlib.Core.Path.{◌≡◌, refl, sym, ◌∙◌, ap, ap₂}
use mathlib.Core.Bool.{Bool}
use mathlib.Core.Logic.{◌⊎◌, inl, inr}
use Prim.Native.Nat.{ℕ, zero, suc, ◌+◌, ◌-◌, ◌*◌, ◌/◌, ◌%◌, ◌<◌, ◌≤◌}
use native.Mathlib.Omega.{arith}
use native.Mathlib.Nat.{not-suc-le-zero}
use lib.Dec.{T, eqb, eqb→eq, ltb, ltb→lt}
use lib.Bits.{bit_xor, xor_step, xor_assoc, xor_comm, xor_self, xor_zero_r, xor_mod, xor_shr, xor_lt}
use Rattle.field.specs.Field.{◌⊕◌, ◌⊗◌, xtime, multiples, xtimes, gexp}
use Rattle.field.proofs.Tests.{all, all_at}
use Rattle.field.proofs.Tables.{powers, place, logarithm}

-- ---- the sum
pub add_assoc : (a b c : ℕ) → (a ⊕ b) ⊕ c ≡ a ⊕ (b ⊕ c)
unfolding ◌⊕◌
add_assoc = xor_assoc

pub add_comm : (a b : ℕ) → a ⊕ b ≡ b ⊕ a
unfolding ◌⊕◌
add_comm = xor_comm

pub add_self : (a : ℕ) → a ⊕ a ≡ 0
unfolding ◌⊕◌
add_self = xor_self

pub add_zero : (a : ℕ) → a ⊕ 0 ≡ a
unfolding ◌⊕◌
add_zero = xor_zero_r

pub zero_add : (a : ℕ) → 0 ⊕ a ≡ a
unfolding ◌⊕◌
zero_add a = refl

pub add_lt : (a b : ℕ) → a < 256 → b < 256 → a ⊕ b < 256
unfolding ◌⊕◌
add_lt a b = xor_lt 8 a b

pub add_left_comm : (a b c : ℕ) → a ⊕ (b ⊕ c) ≡ b ⊕ (a ⊕ c)
add_left_comm a b c = sym (add_assoc a b c) ∙ ap (λ x. x ⊕ c) (add_comm a b) ∙ add_assoc b a c

pub add_swap : (a b c d : ℕ) → (a ⊕ b) ⊕ (c ⊕ d) ≡ (a ⊕ c) ⊕ (b ⊕ d)
add_swap a b c d = simp (add_assoc, add_comm, add_left_comm)

-- ---- times x
double_add : (x y : ℕ) → 2 * (x ⊕ y) ≡ (2 * x) ⊕ (2 * y)
unfolding ◌⊕◌
double_add x y =
    let ex : 2 * x / 2 ≡ x = omega arith in
    let ey : 2 * y / 2 ≡ y = omega arith in
    let fx : 2 * x % 2 ≡ 0 = omega arith in
    let fy : 2 * y % 2 ≡ 0 = omega arith in
    let s : bit_xor (2 * x) (2 * y) ≡ bit_xor x y * 2 + 0 = xor_step (2 * x) (2 * y) ∙ rw (ex, ey, fx, fy) in
    omega arith

reduce_add : (u v : ℕ) → u < 2 → v < 2 → 29 * (u ⊕ v) ≡ (29 * u) ⊕ (29 * v)
unfolding ◌⊕◌
reduce_add zero v hu hv = refl
reduce_add (suc zero) zero hu hv = refl
reduce_add (suc zero) (suc zero) hu hv = refl
reduce_add (suc zero) (suc (suc v)) hu hv = absurd (omega arith)
reduce_add (suc (suc u)) v hu hv = absurd (omega arith)

bit_lt : (a : ℕ) → a % 2 < 2
bit_lt a = omega arith

pub xtime_add : (a b : ℕ) → xtime (a ⊕ b) ≡ xtime a ⊕ xtime b
unfolding xtime ◌⊕◌
xtime_add a b =
    ap₂ (λ (u v : ℕ). bit_xor u v)
    (ap (λ (x : ℕ). 2 * x) (xor_mod a b 7) ∙ double_add (a % 128) (b % 128))
    (ap (λ (x : ℕ). 29 * (x % 2)) (xor_shr a b 7) ∙ ap (λ (x : ℕ). 29 * x) (xor_mod (a / 128) (b / 128) 1)
    ∙ reduce_add (a / 128 % 2) (b / 128 % 2) (bit_lt (a / 128)) (bit_lt (b / 128)))
    ∙ add_swap (2 * (a % 128)) (2 * (b % 128)) (29 * (a / 128 % 2)) (29 * (b / 128 % 2))

pub xtime_lt : (a : ℕ) → xtime a < 256
unfolding xtime
xtime_lt a = xor_lt 8 (2 * (a % 128)) (29 * (a / 128 % 2)) (omega arith) (omega arith)

xtime_zero : xtime 0 ≡ 0
unfolding xtime
xtime_zero = refl

-- ---- the product is linear in its first factor
pick_add : (a b v : ℕ) → v < 2 → (a ⊕ b) * v ≡ (a * v) ⊕ (b * v)
unfolding ◌⊕◌
pick_add a b zero h = simp (native.Mathlib.Nat.mul-zero)
pick_add a b (suc zero) h = simp (native.Mathlib.Nat.mul-one)
pick_add a b (suc (suc v)) h = absurd (omega arith)

multiples_add : (n a b c : ℕ) → multiples n (a ⊕ b) c ≡ multiples n a c ⊕ multiples n b c
unfolding multiples ◌⊕◌
multiples_add zero a b c = refl
multiples_add (suc n) a b c =
    ap₂ (λ (u v : ℕ). bit_xor u v) (pick_add a b (c % 2) (bit_lt c))
    (ap (λ (x : ℕ). multiples n x (c / 2)) (xtime_add a b) ∙ multiples_add n (xtime a) (xtime b) (c / 2))
    ∙ add_swap (a * (c % 2)) (b * (c % 2)) (multiples n (xtime a) (c / 2)) (multiples n (xtime b) (c / 2))

pick_xtime : (a v : ℕ) → v < 2 → xtime a * v ≡ xtime (a * v)
pick_xtime a zero h = simp (native.Mathlib.Nat.mul-zero) (sym xtime_zero)
pick_xtime a (suc zero) h = simp (native.Mathlib.Nat.mul-one)
pick_xtime a (suc (suc v)) h = absurd (omega arith)

multiples_xtime : (n a c : ℕ) → multiples n (xtime a) c ≡ xtime (multiples n a c)
unfolding multiples ◌⊕◌
multiples_xtime zero a c = sym xtime_zero
multiples_xtime (suc n) a c =
    ap₂ (λ (u v : ℕ). bit_xor u v) (pick_xtime a (c % 2) (bit_lt c)) (multiples_xtime n (xtime a) (c / 2))
    ∙ sym (xtime_add (a * (c % 2)) (multiples n (xtime a) (c / 2)))

multiples_xtimes : (k a c : ℕ) → multiples 8 (xtimes k a) c ≡ xtimes k (multiples 8 a c)
unfolding xtimes
multiples_xtimes zero a c = refl
multiples_xtimes (suc k) a c = multiples_xtime 8 (xtimes k a) c ∙ ap xtime (multiples_xtimes k a c)

multiples_lt : (n a c : ℕ) → a < 256 → multiples n a c < 256
unfolding multiples
multiples_lt zero a c h = omega arith
multiples_lt (suc n) a c h = xor_lt 8 (a * (c % 2)) (multiples n (xtime a) (c / 2)) (pick_lt (c % 2) (bit_lt c)) (multiples_lt n (xtime a) (c / 2) (xtime_lt a))
  where
    pick_lt : (v : ℕ) → v < 2 → a * v < 256
    pick_lt zero h' = simp (native.Mathlib.Nat.mul-zero) (omega arith)
    pick_lt (suc zero) h' = simp (native.Mathlib.Nat.mul-one) h
    pick_lt (suc (suc v)) h' = absurd (omega arith)

mod_add : (a b : ℕ) → (a ⊕ b) % 256 ≡ (a % 256) ⊕ (b % 256)
unfolding ◌⊕◌
mod_add a b = xor_mod a b 8

pub mul_lt : (a b : ℕ) → a ⊗ b < 256
unfolding ◌⊗◌
mul_lt a b = multiples_lt 8 (a % 256) (b % 256) (omega arith)

pub add_mul : (a b c : ℕ) → (a ⊕ b) ⊗ c ≡ (a ⊗ c) ⊕ (b ⊗ c)
unfolding ◌⊗◌
add_mul a b c = ap (λ (x : ℕ). multiples 8 x (c % 256)) (mod_add a b) ∙ multiples_add 8 (a % 256) (b % 256) (c % 256)

-- ---- tests over the bytes
one_test : ℕ → Bool
one_test b = eqb (multiples 8 1 b) b

one_tested : T (all one_test 256)
unfolding one_test multiples xtime
one_tested = tt

one_byte : (b : ℕ) → b < 256 → multiples 8 1 b ≡ b
unfolding one_test
one_byte b h = eqb→eq (multiples 8 1 b) b (all_at one_test 256 one_tested b h)

log_test : ℕ → Bool
log_test b = eqb (gexp (logarithm (suc b))) (suc b)

log_tested : T (all log_test 255)
unfolding log_test logarithm place powers gexp xtimes xtime
log_tested = tt

exp_log : (b : ℕ) → b < 255 → gexp (logarithm (suc b)) ≡ suc b
unfolding log_test
exp_log b h = eqb→eq (gexp (logarithm (suc b))) (suc b) (all_at log_test 255 log_tested b h)

-- every byte but 0 is the power of 02 by its logarithm
pub exp_of_log : (b : ℕ) → b < 256 → 0 < b → gexp (logarithm b) ≡ b
exp_of_log zero h n = absurd (not-suc-le-zero n)
exp_of_log (suc b) h n = exp_log b (omega arith)

pub exp_255 : gexp 255 ≡ 1
unfolding gexp xtimes xtime
exp_255 = refl

-- ---- every byte but 0 is a power of 02
xtimes_add : (j k a : ℕ) → xtimes j (xtimes k a) ≡ xtimes (j + k) a
unfolding xtimes
xtimes_add zero k a = rw (native.Mathlib.Nat.zero-add)
xtimes_add (suc j) k a = ap xtime (xtimes_add j k a) ∙ sym (ap (λ (n : ℕ). xtimes n a) (native.Mathlib.Nat.suc-add j k))

pub exp_lt : (k : ℕ) → gexp k < 256
unfolding gexp xtimes
exp_lt zero = omega arith
exp_lt (suc k) = xtime_lt (xtimes k 1)

exp_multiples : (j k : ℕ) → multiples 8 (gexp j) (gexp k) ≡ gexp (j + k)
unfolding gexp
exp_multiples j k = multiples_xtimes j 1 (gexp k) ∙ ap (xtimes j) (one_byte (gexp k) (exp_lt k)) ∙ xtimes_add j k 1

Power : ℕ → Type 0
Power x = (x ≡ 0) ⊎ ((k : ℕ) × (x ≡ gexp k))

is_power : (x : ℕ) → x < 256 → Power x
unfolding Power
is_power zero h = inl refl
is_power (suc x) h = inr (logarithm (suc x), sym (exp_log x (omega arith)))

zero_multiples : (n c : ℕ) → multiples n 0 c ≡ 0
unfolding multiples
zero_multiples zero c = refl
zero_multiples (suc n) c = simp (native.Mathlib.Nat.zero-mul, xtime_zero, zero_multiples n (c / 2))

multiples_zero : (n a : ℕ) → multiples n a 0 ≡ 0
unfolding multiples
multiples_zero zero a = refl
multiples_zero (suc n) a = simp (native.Mathlib.Nat.mul-zero, multiples_zero n (xtime a))

comm_bytes : (x y : ℕ) → Power x → Power y → multiples 8 x y ≡ multiples 8 y x
unfolding Power
comm_bytes x y (inl p) q = rw p (zero_multiples 8 y ∙ sym (multiples_zero 8 y))
comm_bytes x y (inr p) (inl q) = rw q (multiples_zero 8 x ∙ sym (zero_multiples 8 x))
comm_bytes x y (inr p) (inr q) =
    rw (p.1, q.1) (exp_multiples p.0 q.0 ∙ ap gexp (native.Mathlib.Nat.add_comm p.0 q.0) ∙ sym (exp_multiples q.0 p.0))

assoc_bytes : (x y z : ℕ) → Power x → Power y → Power z → multiples 8 (multiples 8 x y) z ≡ multiples 8 x (multiples 8 y z)
unfolding Power
assoc_bytes x y z (inl p) q r = rw p (ap (λ (u : ℕ). multiples 8 u z) (zero_multiples 8 y) ∙ zero_multiples 8 z ∙ sym (zero_multiples 8 (multiples 8 y z)))
assoc_bytes x y z (inr p) (inl q) r =
    rw q (ap (λ (u : ℕ). multiples 8 u z) (multiples_zero 8 x) ∙ zero_multiples 8 z ∙ sym (ap (λ (u : ℕ). multiples 8 x u) (zero_multiples 8 z) ∙ multiples_zero 8 x))
assoc_bytes x y z (inr p) (inr q) (inl r) =
    rw r (multiples_zero 8 (multiples 8 x y) ∙ sym (ap (λ (u : ℕ). multiples 8 x u) (multiples_zero 8 y) ∙ multiples_zero 8 x))
assoc_bytes x y z (inr p) (inr q) (inr r) =
    rw (p.1, q.1, r.1)
    (ap (λ (u : ℕ). multiples 8 u (gexp r.0)) (exp_multiples p.0 q.0) ∙ exp_multiples (p.0 + q.0) r.0
    ∙ ap gexp (native.Mathlib.Nat.add_assoc p.0 q.0 r.0)
    ∙ sym (ap (λ (u : ℕ). multiples 8 (gexp p.0) u) (exp_multiples q.0 r.0) ∙ exp_multiples p.0 (q.0 + r.0)))

mod_byte : (a : ℕ) → a % 256 < 256
mod_byte a = omega arith

pub mul_comm : (a b : ℕ) → a ⊗ b ≡ b ⊗ a
unfolding ◌⊗◌
mul_comm a b = comm_bytes (a % 256) (b % 256) (is_power (a % 256) (mod_byte a)) (is_power (b % 256) (mod_byte b))

pub mul_assoc : (a b c : ℕ) → (a ⊗ b) ⊗ c ≡ a ⊗ (b ⊗ c)
unfolding ◌⊗◌
mul_assoc a b c =
    ap (λ (u : ℕ). multiples 8 u (c % 256)) (native.Mathlib.Nat.mod-eq_of_lt (multiples_lt 8 (a % 256) (b % 256) (mod_byte a)))
    ∙ assoc_bytes (a % 256) (b % 256) (c % 256) (is_power (a % 256) (mod_byte a)) (is_power (b % 256) (mod_byte b)) (is_power (c % 256) (mod_byte c))
    ∙ sym (ap (λ (u : ℕ). multiples 8 (a % 256) u) (native.Mathlib.Nat.mod-eq_of_lt (multiples_lt 8 (b % 256) (c % 256) (mod_byte b))))

pub mul_left_comm : (a b c : ℕ) → a ⊗ (b ⊗ c) ≡ b ⊗ (a ⊗ c)
mul_left_comm a b c = sym (mul_assoc a b c) ∙ ap (λ x. x ⊗ c) (mul_comm a b) ∙ mul_assoc b a c

pub mul_add : (a b c : ℕ) → a ⊗ (b ⊕ c) ≡ (a ⊗ b) ⊕ (a ⊗ c)
mul_add a b c = mul_comm a (b ⊕ c) ∙ add_mul b c a ∙ ap₂ ◌⊕◌ (mul_comm b a) (mul_comm c a)

pub zero_mul : (a : ℕ) → 0 ⊗ a ≡ 0
unfolding ◌⊗◌
zero_mul a = zero_multiples 8 (a % 256)

pub mul_zero : (a : ℕ) → a ⊗ 0 ≡ 0
unfolding ◌⊗◌
mul_zero a = multiples_zero 8 (a % 256)

pub one_mul : (a : ℕ) → a < 256 → 1 ⊗ a ≡ a
unfolding ◌⊗◌
one_mul a h = ap (multiples 8 1) (native.Mathlib.Nat.mod-eq_of_lt h) ∙ one_byte a h

pub mul_one : (a : ℕ) → a < 256 → a ⊗ 1 ≡ a
mul_one a h = mul_comm a 1 ∙ one_mul a h

pub exp_mul : (j k : ℕ) → gexp j ⊗ gexp k ≡ gexp (j + k)
unfolding ◌⊗◌
exp_mul j k =
    ap₂ (λ (u v : ℕ). multiples 8 u v) (native.Mathlib.Nat.mod-eq_of_lt (exp_lt j)) (native.Mathlib.Nat.mod-eq_of_lt (exp_lt k)) ∙ exp_multiples j k

pub exp_255_more : (k : ℕ) → gexp (k + 255) ≡ gexp k
exp_255_more k = sym (exp_mul k 255) ∙ ap (λ (u : ℕ). gexp k ⊗ u) exp_255 ∙ mul_one (gexp k) (exp_lt k)

-- a nonzero byte below 256 has an inverse
pub ginv : ℕ → ℕ
ginv b = gexp (255 - logarithm b)

low_test : ℕ → Bool
low_test b = ltb (logarithm (suc b)) 255

low_tested : T (all low_test 255)
unfolding low_test logarithm place powers xtime
low_tested = tt

pub log_lt : (b : ℕ) → b < 256 → 0 < b → logarithm b < 255
unfolding low_test
log_lt zero h n = absurd (not-suc-le-zero n)
log_lt (suc b) h n = ltb→lt (logarithm (suc b)) 255 (all_at low_test 255 low_tested b (omega arith))

pub inv_mul : (b : ℕ) → b < 256 → (b ≡ 0 → ⊥) → ginv b ⊗ b ≡ 1
unfolding ginv
inv_mul zero h n = absurd (n refl)
inv_mul (suc b) h n =
    ap (λ (u : ℕ). gexp (255 - logarithm (suc b)) ⊗ u) (sym (exp_log b (omega arith)))
    ∙ exp_mul (255 - logarithm (suc b)) (logarithm (suc b))
    ∙ ap gexp (native.Mathlib.Nat.sub-add_cancel (native.Mathlib.Nat.le_of_lt (log_lt (suc b) h (omega arith)))) ∙ exp_255

pub no_divisors : (a b : ℕ) → a < 256 → b < 256 → a ⊗ b ≡ 0 → (a ≡ 0 → ⊥) → b ≡ 0
no_divisors a b ha hb e n =
    sym (one_mul b hb) ∙ ap (λ (u : ℕ). u ⊗ b) (sym (inv_mul a ha n)) ∙ mul_assoc (ginv a) a b ∙ ap (λ (u : ℕ). ginv a ⊗ u) e ∙ mul_zero (ginv a)

-- the powers of 02 below 255 are apart, and none is 0
back_test : ℕ → Bool
back_test k = eqb (logarithm (gexp k)) k

back_tested : T (all back_test 255)
unfolding back_test logarithm place powers gexp xtimes xtime
back_tested = tt

log_exp : (k : ℕ) → k < 255 → logarithm (gexp k) ≡ k
unfolding back_test
log_exp k h = eqb→eq (logarithm (gexp k)) k (all_at back_test 255 back_tested k h)

pub exp_apart : (i j : ℕ) → i < 255 → j < 255 → gexp i ≡ gexp j → i ≡ j
exp_apart i j hi hj e = sym (log_exp i hi) ∙ ap (λ (u : ℕ). logarithm u) e ∙ log_exp j hj

pub exp_nonzero : (k : ℕ) → k ≤ 255 → gexp k ≡ 0 → ⊥
exp_nonzero k h e =
    let z : gexp (255 - k) ⊗ gexp k ≡ 0 = ap (λ (u : ℕ). gexp (255 - k) ⊗ u) e ∙ mul_zero (gexp (255 - k)) in
    let o : gexp (255 - k) ⊗ gexp k ≡ 1 = exp_mul (255 - k) k ∙ ap gexp (native.Mathlib.Nat.sub-add_cancel h) ∙ exp_255 in
    let b : ◌≡◌ {A = ℕ} 0 1 = sym z ∙ o in omega arith
