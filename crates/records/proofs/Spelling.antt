-- Hexadecimal text, digit by digit.
-- Assumes nothing.
use Rattle.std.proofs.Common.{◌≡◌, ℕ, ◌+◌, ◌*◌, Bool, true, false, List, [], ◌∷◌, ◌++◌, length, drop, sym, ap, ◌∙◌, ap₂, append_assoc, add-one, arith}
use Rattle.std.proofs.lemmas.List.{drop-drop, get_or-drop, get_or_append_left}
use Rattle.std.proofs.Math.Seq.{drop-append_seam}
use Rattle.std.specs.Fmt.{digit_glyph}
use Rattle.words.specs.Words.{flags, value}
use Rattle.words.proofs.Bridge.{value_same}
use Rattle.records.specs.Lines.{hex}

-- four more of the bits, and what is left of them
module _ (bits four rest : List Bool) (k : ℕ) (there : drop (4 * k) bits ≡ four ++ rest) (long : length four ≡ 4) where
  pub bits_left : drop (4 * (k + 1)) bits ≡ rest
  bits_left =
      ap (λ (n : ℕ). drop n bits) (omega arith) ∙ sym (drop-drop 4 (4 * k) bits) ∙ ap₂ (λ (n : ℕ) (xs : List Bool). drop n xs) (sym long) there ∙ drop-append_seam four rest

  pub hex_more : (before line next : List ℕ) (n : ℕ) → line ≡ before ++ hex k (flags bits) → next ≡ line ++ digit_glyph true n ∷ [] → n ≡ value (length four) (flags four) → next ≡ before ++ hex (k + 1) (flags bits)
  unfolding hex
  hex_more before line next n e f v =
      let same : n ≡ value 4 (λ t. flags bits (4 * k + t)) =
      v ∙ ap (λ (m : ℕ). value m (flags four)) long ∙ value_same 4 (flags four) (λ t. flags bits (4 * k + t))
      (λ t h. sym (get_or_append_left four rest false t (omega arith)) ∙ ap (λ (xs : List Bool). flags xs t) (sym there) ∙ get_or-drop (4 * k) bits t false)
      in
      f ∙ ap₂ ◌++◌ e (ap (λ (m : ℕ). digit_glyph true m ∷ []) same)
      ∙ append_assoc before (hex k (flags bits)) (digit_glyph true (value 4 (λ t. flags bits (4 * k + t))) ∷ [])
      ∙ ap (λ (m : ℕ). before ++ hex m (flags bits)) (sym (add-one k))
