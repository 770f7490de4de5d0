-- Outer words taken block by block.
-- Assumes nothing.
use Rattle.std.proofs.Common.{◌≡◌, ℕ, zero, suc, ◌+◌, ◌-◌, ◌*◌, ◌<◌, ◌≤◌, List, Some, None, sym, refl, ap, ◌∙◌, subst, ap₂, mul-le-mul_left, mul-suc, add-one, arith, get_or}
use native.Mathlib.Decide.{ℕ_discrete}
use Rattle.words.specs.Words.{Bytes, part, total, word}
use Rattle.words.proofs.Bridge.{get_or_listed, listed_same}
use Rattle.standard.specs.declared.order.Request.{Request}
use Rattle.standard.specs.Profiles.{Fitting}
use Rattle.outer_theory.specs.Syndromes.{differing}
use Rattle.outer_theory.specs.Correction.{Corrected}
use Rattle.coder.specs.Sending.{profiled}
use Rattle.decoder.specs.Taken.{Taken}
use Rattle.decoder.specs.Blocks.{nth, OneTaken, BlocksTaken, NoBlock}

-- a block whose only outer word within the limit does not end in 00, though it is the last
pub untailed : (r : Request) (b wrong : ℕ) (old new : Bytes) → Fitting (profiled r)
    → Corrected (profiled r).message (profiled r).limit (profiled r).limit (part (2 * (profiled r).limit + (profiled r).message) ((profiled r).block * b) old) (part (2 * (profiled r).limit + (profiled r).message) ((profiled r).block * b) new) wrong
    → b + 1 ≡ r.symbols → (new ((profiled r).block * b + ((profiled r).block - 1)) ≡ 0 → ⊥) → OneTaken r b old new None
untailed r b wrong old new f c last bad w t =
    let n = (profiled r).block in
    let some : n - 1 < n = omega (arith, f.some, f.parity) in
    let near : differing (part (2 * (profiled r).limit + (profiled r).message) (n * b) old) w ≤ (profiled r).limit = subst (λ (m : ℕ). differing (part m (n * b) old) w ≤ (profiled r).limit) f.parity t.near in
    let e : w ≡ nth r new b = c.only w t.outer near ∙ ap (λ (m : ℕ). part m (n * b) new) (sym f.parity) in
    bad (sym (get_or_listed n (λ k. new (n * b + k)) (n - 1) some) ∙ ap (λ (v : List ℕ). get_or v (n - 1) 0) (sym e) ∙ t.tail last)

-- ---- block after block
module _ (r : Request) where
  -- a block before place n * b is known from the bytes before it
  nth_before : (v w : Bytes) (b i : ℕ) → i < b → ((k : ℕ) → k < (profiled r).block * b → v k ≡ w k) → nth r v i ≡ nth r w i
  nth_before v w b i l h =
      listed_same (profiled r).block (λ k. v ((profiled r).block * i + k)) (λ k. w ((profiled r).block * i + k))
      (λ k m. h ((profiled r).block * i + k) (let a = mul-le-mul_left (profiled r).block l in let e = mul-suc (profiled r).block i in omega arith))

  nth_from : (v w : Bytes) (b : ℕ) → ((k : ℕ) → (profiled r).block * b ≤ k → v k ≡ w k) → nth r v b ≡ nth r w b
  nth_from v w b h = listed_same (profiled r).block (λ k. v ((profiled r).block * b + k)) (λ k. w ((profiled r).block * b + k)) (λ k m. h ((profiled r).block * b + k) (omega arith))

  pub total_same : (n : ℕ) (f g : ℕ → ℕ) → ((k : ℕ) → k < n → f k ≡ g k) → total n f ≡ total n g
  total_same zero f g h = refl
  total_same (suc n) f g h = ap₂ ◌+◌ (total_same n f g (λ k l. h k (omega arith))) (h n (omega arith))

  module _ (old mid : Bytes) (new : List ℕ) (b sum wrong : ℕ) (so_far : BlocksTaken r b old mid sum) (before : (k : ℕ) → k < (profiled r).block * b → word new k ≡ mid k)
      (past : (k : ℕ) → (profiled r).block * (b + 1) ≤ k → word new k ≡ mid k) (one : OneTaken r b mid (word new) (Some wrong)) where
    here : nth r mid b ≡ nth r old b
    here = nth_from mid old b so_far.rest

    earlier : (i : ℕ) → i < b → nth r mid i ≡ nth r (word new) i
    earlier i l = nth_before mid (word new) b i l (λ k h. sym (before k h))

    pub blocks_more : BlocksTaken r (b + 1) old (word new) (sum + wrong)
    blocks_more =
        record {
          taken = λ i l. elim (ℕ_discrete i b) [
            | yes e ↦ subst (λ (j : ℕ). Taken r j (nth r old j) (nth r (word new) j)) (sym e) (subst (λ (v : List ℕ). Taken r b v (nth r (word new) b)) here one.0)
            | no e ↦ (let h : i < b = omega arith in subst (λ (v : List ℕ). Taken r i (nth r old i) v) (earlier i h) (so_far.taken i h))
          ];
          summed =
              ap₂ ◌+◌ (so_far.summed ∙ total_same b (λ i. differing (nth r old i) (nth r mid i)) (λ i. differing (nth r old i) (nth r (word new) i)) (λ i l. ap (differing (nth r old i)) (earlier i l)))
              (one.1 ∙ ap (λ (v : List ℕ). differing v (nth r (word new) b)) here)
              ∙ ap (λ (n : ℕ). total n (λ i. differing (nth r old i) (nth r (word new) i))) (sym (add-one b));
          rest = λ k h. past k h ∙ so_far.rest k (let e : (profiled r).block * (b + 1) ≡ (profiled r).block * b + (profiled r).block = ap (λ (x : ℕ). (profiled r).block * x) (add-one b) ∙ mul-suc (profiled r).block b in omega arith);
        }

    pub wrong_few : wrong ≤ (profiled r).limit
    wrong_few = let n = one.0.near in let e = one.1 in omega arith

  pub no_block : (old mid new : Bytes) (b sum : ℕ) → BlocksTaken r b old mid sum → b < r.symbols → OneTaken r b mid new None → NoBlock r old (b + 1)
  no_block old mid new b sum so_far l none =
      record {
        some = omega arith;
        within = omega arith;
        none = λ w t. none w (subst (λ (v : List ℕ). Taken r b v w) (sym (nth_from mid old b so_far.rest)) (subst (λ (j : ℕ). Taken r j (nth r old j) w) (let e : b + 1 - 1 ≡ b = omega arith in e) t));
        before = λ i h. (nth r mid i, so_far.taken i (omega arith));
      }
