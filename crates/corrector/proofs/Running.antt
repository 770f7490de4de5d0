-- The powers that a loop adds to a row of values, its exponent running along.
-- Assumes nothing.
use Rattle.std.proofs.Common.{◌≡◌, ℕ, ◌+◌, ◌<◌, ◌≤◌, ◌⊎◌, List, length, get_or, set, sym, ap, ◌∙◌, inl, inr, add-one, arith}
use lib.Bits.{bit_xor}
use Rattle.field.specs.Field.{◌⊗◌, gexp, gpow}
use Rattle.field.proofs.Field.{exp_lt, exp_mul, exp_255_more, mul_assoc, mul_comm, mul_one}
use Rattle.field.proofs.Powers.{pow_zero, pow_suc}
use Rattle.words.specs.Words.{listed}
use Rattle.words.proofs.Bridge.{get_or_listed}
use Rattle.outer_code.proofs.Filled.{Filled, filled_start}
use Rattle.corrector.proofs.Steps.{added, added_more}
use Rattle.outer_theory.proofs.Products.{triangle}

-- the powers below the i-th have been added, and the i-th is that of the exponent
pub record Running (start step : ℕ) (old values : List ℕ) (exponent i : ℕ) : Type 0 where
  pub filled : Filled (added (λ k. gexp start ⊗ gpow (gexp step) k) old) 0 i old values
  pub power : gexp exponent ≡ gexp start ⊗ gpow (gexp step) i
  pub low : exponent < 255

pub running_start : (start step : ℕ) (old : List ℕ) → start < 255 → Running start step old old start 0
running_start start step old h =
    record {
      filled = filled_start (added (λ k. gexp start ⊗ gpow (gexp step) k) old) 0 old;
      power = sym (ap (λ (y : ℕ). gexp start ⊗ y) (pow_zero (gexp step)) ∙ mul_one (gexp start) (exp_lt start));
      low = h;
    }

stepped : (start step exponent exponent' i : ℕ) → gexp exponent ≡ gexp start ⊗ gpow (gexp step) i → (exponent' ≡ exponent + step) ⊎ (exponent' + 255 ≡ exponent + step)
    → gexp exponent' ≡ gexp start ⊗ gpow (gexp step) (i + 1)
stepped start step exponent exponent' i e why =
    by why ∙ sym (exp_mul exponent step) ∙ ap (λ (y : ℕ). y ⊗ gexp step) e ∙ turn (gexp start) (gpow (gexp step) i) (gexp step)
    ∙ ap (λ (y : ℕ). gexp start ⊗ y) (sym (pow_suc (gexp step) i) ∙ ap (gpow (gexp step)) (sym (add-one i)))
  where
    by : (exponent' ≡ exponent + step) ⊎ (exponent' + 255 ≡ exponent + step) → gexp exponent' ≡ gexp (exponent + step)
    by (inl q) = ap gexp q
    by (inr q) = sym (exp_255_more exponent') ∙ ap gexp q

    turn : (a p g : ℕ) → (a ⊗ p) ⊗ g ≡ a ⊗ (g ⊗ p)
    turn a p g = simp (mul_assoc, mul_comm)

pub running_more : (start step : ℕ) (old values : List ℕ) (exponent exponent' i p : ℕ) → i < length old → p ≡ gexp exponent → (exponent' ≡ exponent + step) ⊎ (exponent' + 255 ≡ exponent + step) → exponent' < 255
    → Running start step old values exponent i → Running start step old (set values i (bit_xor (get_or values i 0) p)) exponent' (i + 1)
running_more start step old values exponent exponent' i p l ep why low w =
    record {
      filled = added_more (λ k. gexp start ⊗ gpow (gexp step) k) old values i p l (ep ∙ w.power) w.filled;
      power = stepped start step exponent exponent' i w.power why;
      low = low;
    }

-- the table of the triangular numbers
unfoldable pub triangles : List ℕ
triangles = listed 17 triangle

pub triangle_at : (e : ℕ) → e ≤ 16 → get_or triangles e 0 ≡ triangle e
unfolding triangles
triangle_at e h = get_or_listed 17 triangle e (omega arith)
