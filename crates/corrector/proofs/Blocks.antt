-- The theory of correcting, for a block whose length is known from its shape.
-- Assumes nothing.
use Rattle.std.proofs.Common.{◌≡◌, ℕ, suc, ◌+◌, ◌*◌, ◌<◌, ◌≤◌, ◌⊎◌, List, length, get_or, sym, ap, ◌∙◌, subst}
use Rattle.field.specs.Field.{◌⊕◌, ◌⊗◌, gpow}
use Rattle.words.specs.Words.{word}
use Rattle.outer_code.specs.Outer.{AreBytes, Outer}
use Rattle.outer_theory.specs.Sums.{sum, count}
use Rattle.outer_theory.specs.Syndromes.{syndrome, differing, X}
use Rattle.outer_theory.specs.Correction.{Corrected}
use Rattle.outer_theory.proofs.Errors.{Errors}
use Rattle.outer_theory.proofs.Correcting as C

module _ (size limit most : ℕ) (hl : limit ≤ 8) (hs : size ≤ 239) (hm : most ≤ limit) (old : List ℕ) (lo : length old ≡ 2 * limit + size) (bo : AreBytes old) where
  pub clean : ((j : ℕ) → j < 2 * limit → syndrome (2 * limit) (2 * limit + size) (word old) j ≡ 0) → Corrected size limit most old old 0
  clean = subst (λ (n : ℕ). ((j : ℕ) → j < 2 * limit → syndrome (2 * limit) n (word old) j ≡ 0) → Corrected size limit most old old 0) lo (C.clean size limit most hl hs hm old lo bo)

  pub accepted : (new e : List ℕ) (wrong : ℕ) → length new ≡ length old → length e ≡ 2 * limit + size → AreBytes new
      → ((j : ℕ) → j < 2 * limit → syndrome (2 * limit) (2 * limit + size) (word old) j ≡ syndrome (2 * limit) (2 * limit + size) (word e) j)
      → ((q : ℕ) → q < length old → get_or new q 0 ≡ get_or old q 0 ⊕ get_or e q 0) → wrong ≡ count (length e) (word e) → wrong ≤ most → Corrected size limit most old new wrong
  accepted new e wrong ln le bn s h c few =
      C.accepted size limit most hl hs hm old lo bo new e wrong ln bn
      (subst (λ (n : ℕ). (j : ℕ) → j < 2 * limit → syndrome (2 * limit) n (word old) j ≡ syndrome (2 * limit) n (word e) j) (sym lo) s)
      h (c ∙ ap (λ (n : ℕ). count n (word e)) (le ∙ sym lo)) few

  pub refused : (s a marks : List ℕ) → ((j : ℕ) → j < 2 * limit → get_or s j 0 ≡ syndrome (2 * limit) (2 * limit + size) (word old) j) → length a ≡ 9 → AreBytes a
      → ((l : ℕ) × (l ≤ limit) × (get_or a l 0 ≡ 1)) → ((j : ℕ) → j < limit → sum (suc limit) (λ l. get_or a l 0 ⊗ get_or s (j + l) 0) ≡ 0)
      → ((k : ℕ) → k < 2 * limit + size → get_or marks k 0 ≡ sum (suc limit) (λ l. get_or a l 0 ⊗ gpow (X (2 * limit) (2 * limit + size) k) l))
      → (e : List ℕ) (wrong : ℕ) → length e ≡ 2 * limit + size
      → ((f : ℕ → ℕ) → Errors limit (2 * limit + size) s marks f → (q : ℕ) → q < 2 * limit + size → get_or e q 0 ≡ f q) → wrong ≡ count (length e) (word e)
      → (most < wrong) ⊎ (((j : ℕ) → j < 2 * limit → get_or s j 0 ≡ syndrome (2 * limit) (2 * limit + size) (word e) j) → ⊥)
      → (w : List ℕ) → Outer size limit w → differing old w ≤ most → ⊥
  refused s a marks sums la ba one vanish hmarks e wrong le h c why =
      C.refused size limit most hl hs hm old lo bo s a marks
      (subst (λ (n : ℕ). (j : ℕ) → j < 2 * limit → get_or s j 0 ≡ syndrome (2 * limit) n (word old) j) (sym lo) sums) la ba one vanish
      (subst (λ (n : ℕ). (k : ℕ) → k < n → get_or marks k 0 ≡ sum (suc limit) (λ l. get_or a l 0 ⊗ gpow (X (2 * limit) n k) l)) (sym lo) hmarks)
      e wrong
      (subst (λ (n : ℕ). (f : ℕ → ℕ) → Errors limit n s marks f → (q : ℕ) → q < n → get_or e q 0 ≡ f q) (sym lo) h)
      (c ∙ ap (λ (n : ℕ). count n (word e)) (le ∙ sym lo))
      (subst (λ (n : ℕ). (most < wrong) ⊎ (((j : ℕ) → j < 2 * limit → get_or s j 0 ≡ syndrome (2 * limit) n (word e) j) → ⊥)) (sym lo) why)
