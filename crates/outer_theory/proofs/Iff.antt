-- A block is an outer word exactly when its syndromes vanish; no two outer words are near one block; the parity is the message's own.
-- Assumes nothing.
use Rattle.std.proofs.Common.{◌≡◌, ℕ, zero, suc, ◌+◌, ◌-◌, ◌*◌, ◌<◌, ◌≤◌, List, [], ◌∷◌, ◌++◌, length, take, drop, sym, refl, ap, ◌∙◌, subst, ap₂, le_trans, arith}
use Rattle.std.proofs.lemmas.List.{length-append, length-take-le, length-drop, get_or-drop, ext_get_or}
use Rattle.field.specs.Field.{◌⊕◌, gexp}
use Rattle.field.proofs.Field.{exp_lt, exp_apart}
use Rattle.field.proofs.Powers.{zero_if_same}
use Rattle.words.specs.Words.{word}
use Rattle.outer_code.specs.Outer.{AreBytes, Outer}
use Rattle.outer_code.specs.Blocks.{block_of}
use Rattle.outer_code.proofs.Parity.{evaluated_zeros}
use Rattle.outer_code.proofs.Blocks.{outer_block, block_message}
use Rattle.outer_theory.specs.Sums.{count}
use Rattle.outer_theory.specs.Syndromes.{place, syndrome, differing, X, V}
use Rattle.outer_theory.proofs.Sums.{count_low, count_triangle}
use Rattle.outer_theory.proofs.Word.{weight_lt, weight_nonzero, place_lt, place_apart, syndromes_vanish}
use Rattle.outer_theory.proofs.Locate.{moment, unique}

pub syndrome_is : (t n : ℕ) (w : ℕ → ℕ) (j : ℕ) → syndrome t n w j ≡ moment n (X t n) (V t n) w j
unfolding syndrome moment
syndrome_is t n w j = refl

module _ (t n : ℕ) (ht : t ≤ n) (hs : t ≤ 16) (hn : n + (16 - t) ≤ 255) where
  pub X_lt : (k : ℕ) → k < n → X t n k < 256
  X_lt k l = exp_lt (place t n k)

  pub X_apart : (i k : ℕ) → i < k → k < n → X t n i ≡ X t n k → ⊥
  X_apart i k h l e =
      place_apart t n i k ht h l (exp_apart (place t n i) (place t n k) (omega (arith, place_lt t n i ht (omega arith))) (omega (arith, place_lt t n k ht l)) e)

  pub V_lt : (k : ℕ) → k < n → V t n k < 256
  V_lt k l = weight_lt (16 - t) (place t n k + (16 - t))

  pub V_nonzero : (k : ℕ) → k < n → V t n k ≡ 0 → ⊥
  V_nonzero k l = weight_nonzero (16 - t) (place t n k + (16 - t)) (omega arith) (omega (arith, place_lt t n k ht l))

  same_words : (f g : List ℕ) → length f ≡ n → length g ≡ n → AreBytes f → AreBytes g → ((j : ℕ) → j < t → syndrome t n (word f) j ≡ 0) → ((j : ℕ) → j < t → syndrome t n (word g) j ≡ 0)
      → count n (λ k. word f k ⊕ word g k) ≤ t → f ≡ g
  same_words f g lf lg bf bg sf sg c =
      ext_get_or 0 f g (lf ∙ sym lg)
      (λ k l. unique n (X t n) (V t n) X_lt X_apart V_lt V_nonzero t (word f) (word g) (λ k m. bf k) (λ k m. bg k)
      (λ j m. sym (syndrome_is t n (word f) j) ∙ sf j m ∙ sym (sg j m) ∙ syndrome_is t n (word g) j) c k (subst (λ (m : ℕ). k < m) lf l))

joined_bytes : (t : ℕ) (p d : List ℕ) → AreBytes p → AreBytes d → AreBytes (take t p ++ d)
joined_bytes zero p d bp bd k = bd k
joined_bytes (suc t) [] d bp bd k = bd k
joined_bytes (suc t) (x ∷ p) d bp bd zero = bp 0
joined_bytes (suc t) (x ∷ p) d bp bd (suc k) = joined_bytes t p d (λ i. bp (suc i)) bd k

module _ (size limit : ℕ) (hl : limit ≤ 8) (hs : size ≤ 239) where
  pub outer_length : (w : List ℕ) → Outer size limit w → length w ≡ 2 * limit + size
  outer_length w o =
      ap length o.block ∙ length-append (take (2 * limit) o.parity) o.message
      ∙ let h : 2 * limit ≤ length o.parity = omega (arith, o.parity_length) in
      let q = length-take-le (2 * limit) o.parity h in omega (arith, o.message_length)

  pub outer_bytes : (w : List ℕ) → Outer size limit w → AreBytes w
  outer_bytes w o = subst AreBytes (sym o.block) (joined_bytes (2 * limit) o.parity o.message o.parity_bytes o.message_bytes)

  pub outer_syndromes : (w : List ℕ) → Outer size limit w → (j : ℕ) → j < 2 * limit → syndrome (2 * limit) (2 * limit + size) (word w) j ≡ 0
  outer_syndromes w o j h =
      ap₂ (λ (n : ℕ) (z : List ℕ). syndrome (2 * limit) n (word z) j) (let e : 2 * limit + size ≡ length o.message + 2 * limit = omega (arith, o.message_length) in e) o.block
      ∙ syndromes_vanish (2 * limit) o.message o.parity (omega arith) o.parity_length
      (λ r l. sym (evaluated_zeros (gexp r) (239 - size) (o.message ++ o.parity)) ∙ o.codeword r l) j h

  -- two outer words of which one has the message of the other, or nearly, are one
  same_outer : (v w : List ℕ) → Outer size limit v → Outer size limit w → count (2 * limit + size) (λ k. word v k ⊕ word w k) ≤ 2 * limit → v ≡ w
  same_outer v w o p c =
      same_words (2 * limit) (2 * limit + size) (omega arith) (omega arith) (omega arith) v w (outer_length v o) (outer_length w p) (outer_bytes v o) (outer_bytes w p)
      (outer_syndromes v o) (outer_syndromes w p) c

  module _ (w : List ℕ) (lw : length w ≡ 2 * limit + size) (bw : AreBytes w) where
    d : List ℕ
    d = drop (2 * limit) w

    ld : length d ≡ size
    unfolding d
    ld = length-drop (2 * limit) w ∙ omega arith

    bd : AreBytes d
    unfolding d
    bd k = subst (λ (m : ℕ). m < 256) (sym (get_or-drop (2 * limit) w k 0)) (bw (2 * limit + k))

    drop_block : Outer size limit (block_of limit (drop (2 * limit) w))
    unfolding d
    drop_block = outer_block limit hl d size hs ld bd

    few : count (2 * limit + size) (λ k. word w k ⊕ word (block_of limit (drop (2 * limit) w)) k) ≤ 2 * limit
    few =
        count_low (2 * limit + size) (2 * limit) (λ k. word w k ⊕ word (block_of limit (drop (2 * limit) w)) k)
        (λ k a l. zero_if_same (word w k) (word (block_of limit (drop (2 * limit) w)) k) (same k a))
      where
        same : (k : ℕ) → 2 * limit ≤ k → word w k ≡ word (block_of limit (drop (2 * limit) w)) k
        same k a =
            let q : 2 * limit + (k - 2 * limit) ≡ k = omega arith in
            sym (ap (λ (m : ℕ). word (block_of limit (drop (2 * limit) w)) m) (sym q) ∙ block_message limit hl (drop (2 * limit) w) (k - 2 * limit) ∙ get_or-drop (2 * limit) w (k - 2 * limit) 0
            ∙ ap (word w) q)

    -- the parity of an outer word is the one that is sent for its message
    pub outer_parity : Outer size limit w → w ≡ block_of limit (drop (2 * limit) w)
    outer_parity o = same_outer w (block_of limit (drop (2 * limit) w)) o drop_block few

    pub syndromes_outer : ((j : ℕ) → j < 2 * limit → syndrome (2 * limit) (2 * limit + size) (word w) j ≡ 0) → Outer size limit w
    syndromes_outer sw =
        subst (Outer size limit)
        (sym (same_words (2 * limit) (2 * limit + size) (omega arith) (omega arith) (omega arith) w (block_of limit (drop (2 * limit) w)) lw (outer_length (block_of limit (drop (2 * limit) w)) drop_block)
        bw (outer_bytes (block_of limit (drop (2 * limit) w)) drop_block) sw (outer_syndromes (block_of limit (drop (2 * limit) w)) drop_block) few))
        drop_block

  pub only_one : (r v w : List ℕ) → length r ≡ 2 * limit + size → Outer size limit v → Outer size limit w
      → differing r v ≤ limit → differing r w ≤ limit → v ≡ w
  only_one r v w lr o p dv dw =
      same_outer v w o p
      (subst (λ (n : ℕ). count n (λ k. word v k ⊕ word w k) ≤ 2 * limit) lr
      (le_trans (count_triangle (length r) (word v) (word w) (word r)) (omega arith)))
