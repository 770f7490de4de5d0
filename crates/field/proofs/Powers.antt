-- Laws of powers, and of equal elements.
-- Assumes nothing.
use mathlib.Core.Path.{◌≡◌, refl, sym, ◌∙◌, ap}
use Prim.Native.Nat.{ℕ, zero, suc, ◌+◌, ◌*◌, ◌<◌}
use native.Mathlib.Omega.{arith}
use native.Mathlib.Nat as N
use Rattle.field.specs.Field.{◌⊕◌, ◌⊗◌, gexp, gpow, xtimes}
use Rattle.field.proofs.Field.{add_assoc, add_self, add_zero, zero_add, mul_assoc, mul_comm, mul_left_comm, mul_lt, one_mul, exp_mul, no_divisors}

pub same_if_zero : (a b : ℕ) → a ⊕ b ≡ 0 → a ≡ b
same_if_zero a b e = sym (add_zero a) ∙ ap (λ (x : ℕ). a ⊕ x) (sym (add_self b)) ∙ sym (add_assoc a b b) ∙ ap (λ (x : ℕ). x ⊕ b) e ∙ zero_add b

pub zero_if_same : (a b : ℕ) → a ≡ b → a ⊕ b ≡ 0
zero_if_same a b e = ap (λ (x : ℕ). x ⊕ b) e ∙ add_self b

pub pow_lt : (a k : ℕ) → gpow a k < 256
unfolding gpow
pow_lt a zero = omega arith
pow_lt a (suc k) = mul_lt a (gpow a k)

pub pow_suc : (a k : ℕ) → gpow a (suc k) ≡ a ⊗ gpow a k
unfolding gpow
pow_suc a k = refl

pub pow_zero : (a : ℕ) → gpow a 0 ≡ 1
unfolding gpow
pow_zero a = refl

pub pow_add : (a j k : ℕ) → gpow a (j + k) ≡ gpow a j ⊗ gpow a k
unfolding gpow
pow_add a zero k = ap (gpow a) (N.zero-add k) ∙ sym (one_mul (gpow a k) (pow_lt a k))
pow_add a (suc j) k = ap (gpow a) (N.suc-add j k) ∙ ap (λ (x : ℕ). a ⊗ x) (pow_add a j k) ∙ sym (mul_assoc a (gpow a j) (gpow a k))

pub exp_zero : gexp 0 ≡ 1
unfolding gexp xtimes
exp_zero = refl

pub pow_exp : (i k : ℕ) → gpow (gexp i) k ≡ gexp (i * k)
unfolding gpow
pow_exp i zero = sym (ap gexp (N.mul-zero i) ∙ exp_zero)
pow_exp i (suc k) =
    ap (λ (x : ℕ). gexp i ⊗ x) (pow_exp i k) ∙ exp_mul i (i * k) ∙ ap gexp (N.add_comm i (i * k) ∙ sym (N.mul-suc i k))

pub pow_exp_comm : (i k : ℕ) → gpow (gexp i) k ≡ gpow (gexp k) i
pow_exp_comm i k = pow_exp i k ∙ ap gexp (N.mul_comm i k) ∙ sym (pow_exp k i)

pub pow_mul : (a b k : ℕ) → gpow (a ⊗ b) k ≡ gpow a k ⊗ gpow b k
unfolding gpow
pow_mul a b zero = sym (one_mul 1 (omega arith))
pow_mul a b (suc k) = ap (λ (x : ℕ). (a ⊗ b) ⊗ x) (pow_mul a b k) ∙ simp (mul_assoc, mul_comm, mul_left_comm)

pub pow_nonzero : (a : ℕ) → a < 256 → (a ≡ 0 → ⊥) → (k : ℕ) → gpow a k ≡ 0 → ⊥
unfolding gpow
pow_nonzero a h n zero e = omega arith
pow_nonzero a h n (suc k) e = pow_nonzero a h n k (no_divisors a (gpow a k) h (pow_lt a k) e n)
