-- The order in which a block's bytes are taken: the message first, the parity last.
-- Assumes nothing.
use Rattle.std.proofs.Common.{◌≡◌, ℕ, ◌+◌, ◌-◌, ◌<◌, ◌≤◌, Bool, ltb, sym, ap, ◌∙◌, ap₂, arith, le-ltb, lt-ltb}
use Rattle.field.specs.Field.{◌⊕◌}
use Rattle.field.proofs.Field.{add_comm}
use Rattle.outer_theory.specs.Sums.{sum}
use Rattle.outer_theory.specs.Syndromes.{pick}
use Rattle.outer_theory.proofs.Sums.{sum_same, sum_join}

-- of a block of n bytes, the first t of them parity: the byte that is taken as number i
unfoldable pub order : ℕ → ℕ → ℕ → ℕ
order t n i = pick (ltb i (n - t)) (t + i) (i - (n - t))

pub order_message : (t n i : ℕ) → i < n - t → order t n i ≡ t + i
unfolding order
order_message t n i h = ap (λ (b : Bool). pick b (t + i) (i - (n - t))) (lt-ltb i (n - t) h)

pub order_parity : (t n i : ℕ) → n - t ≤ i → order t n i ≡ i - (n - t)
unfolding order
order_parity t n i h = ap (λ (b : Bool). pick b (t + i) (i - (n - t))) (le-ltb i (n - t) h)

-- every byte is taken once
pub order_sum : (t n : ℕ) (f : ℕ → ℕ) → t ≤ n → sum n (λ i. f (order t n i)) ≡ sum n f
order_sum t n f h =
    ap (λ (m : ℕ). sum m (λ i. f (order t n i))) (let e : n ≡ t + (n - t) = omega arith in e)
    ∙ sum_join t (n - t) (λ i. f (order t n i))
    ∙ ap₂ ◌⊕◌
    (sum_same (n - t) (λ i. f (order t n i)) (λ i. f (i + t)) (λ i l. ap f (order_message t n i l ∙ let e : t + i ≡ i + t = omega arith in e)))
    (sum_same t (λ i. f (order t n (i + (n - t)))) f (λ i l. ap f (order_parity t n (i + (n - t)) (omega arith) ∙ let e : i + (n - t) - (n - t) ≡ i = omega arith in e)))
    ∙ add_comm (sum (n - t) (λ i. f (i + t))) (sum t f)
    ∙ sym (sum_join (n - t) t f)
    ∙ ap (λ (m : ℕ). sum m f) (let e : n - t + t ≡ n = omega arith in e)
