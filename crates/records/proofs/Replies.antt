-- The text of lines and of whole inputs, piece by piece.
-- Assumes nothing.
use Rattle.std.proofs.Common.{◌≡◌, ℕ, zero, suc, ◌+◌, ◌-◌, ◌*◌, ◌/◌, ◌<◌, ◌≤◌, Bool, true, false, cond, ltb, List, [], ◌∷◌, ◌++◌, length, get_or, take, drop, Some, None, codes, Option, sym, refl, ap, ◌∙◌, ap₂, append_assoc, append-nil, arith, ltb-false}
use Rattle.std.proofs.lemmas.List.{length-drop, length-take, take_all, drop-drop, get_or-take}
use Rattle.words.specs.Words.{Bits, flags}
use Rattle.words.proofs.Bridge.{value_same}
use Rattle.std.specs.Fmt.{digit_glyph}
use Rattle.standard.specs.declared.order.Request.{Request}
use Rattle.standard.specs.declared.refusal.Refusal.{Refusal}
use Rattle.standard.specs.Refusals.{first, burst_rows}
use Rattle.coder.specs.Sending.{burst_length, sent}
use Rattle.standard.specs.declared.refusal.Refusal.TheVariants.{UnknownMark, CutShort}
use Rattle.records.specs.declared.record.Mark.TheVariants.{Bu, Unknown}
use Rattle.records.specs.Lines.{begun, hex}
use Rattle.records.specs.Records.{burst, broken, head, marked, long_in, request_in}
use Rattle.records.specs.Answers.{newline, line_of_burst, line, used, followed, lines, text}

pub hex_same : (n : ℕ) (u v : Bits) → ((k : ℕ) → k < 4 * n → u k ≡ v k) → hex n u ≡ hex n v
unfolding hex
hex_same zero u v h = refl
hex_same (suc n) u v h =
    ap₂ (λ (xs : List ℕ) (x : ℕ). xs ++ digit_glyph true x ∷ []) (hex_same n u v (λ k l. h k (omega arith)))
    (value_same 4 (λ t. u (4 * n + t)) (λ t. v (4 * n + t)) (λ t l. h (4 * n + t) (omega arith)))

-- the line of a burst that nothing refuses
pub burst_sent : (place : ℕ) (r : Request) (d : List ℕ) (bs : List Bool) (n : ℕ) → n ≤ length bs → None ≡ first (burst_rows r (length d)) → n ≡ burst_length r → ((j : ℕ) → j < burst_length r → get_or bs j false ≡ sent r d j)
    → begun place Bu 0 ++ (codes " " ++ (hex (length (take n bs) / 4) (flags (take n bs)) ++ newline)) ≡ line_of_burst place r d (first (burst_rows r (length d)))
burst_sent place r d bs n room none e b =
    let long : length (take n bs) ≡ n = simp length-take (omega arith) in
    ap (λ (xs : List ℕ). begun place Bu 0 ++ (codes " " ++ (xs ++ newline)))
    (ap (λ (m : ℕ). hex (m / 4) (flags (take n bs))) (long ∙ e)
    ∙ hex_same (burst_length r / 4) (flags (take n bs)) (sent r d) (λ k l. get_or-take n bs k false (omega arith) ∙ b k (omega arith)))
    ∙ ap (λ (o : Option Refusal). line_of_burst place r d o) none

-- ---- records one after another
-- a record takes some bytes of those that are there
pub used_within : (xs : List ℕ) (n : ℕ) → used (head xs) ≡ Some n → (0 < n) × (n ≤ length xs)
used_within xs n e = go (ltb (length xs) 2) (marked xs) (ltb (length xs) (9 + cond (ltb (length xs) 9) 0 (long_in xs))) refl e
  where
    taken : (m : ℕ) → 9 + m ≤ length xs → 9 + length (take (long_in xs) (drop 9 xs)) ≡ n → (0 < n) × (n ≤ length xs)
    taken m room h =
        let a : length (take (long_in xs) (drop 9 xs)) ≤ length (drop 9 xs) = simp length-take (omega arith) in
        let b = length-drop 9 xs in
        (omega arith, omega arith)

    go : (a b c : Bool) → ltb (length xs) (9 + cond (ltb (length xs) 9) 0 (long_in xs)) ≡ c
        → used (cond a (broken Unknown CutShort) (cond b (cond c (broken Bu CutShort) (burst (request_in xs) (take (long_in xs) (drop 9 xs)))) (broken Unknown UnknownMark))) ≡ Some n → (0 < n) × (n ≤ length xs)
    go true b c t h = absurd (let z : ◌≡◌ {A = ℕ} 0 1 = cc in omega arith)
    go false false c t h = absurd (let z : ◌≡◌ {A = ℕ} 0 1 = cc in omega arith)
    go false true true t h = absurd (let z : ◌≡◌ {A = ℕ} 0 1 = cc in omega arith)
    go false true false t h = taken (cond (ltb (length xs) 9) 0 (long_in xs)) (ltb-false (length xs) (9 + cond (ltb (length xs) 9) 0 (long_in xs)) t) (let z : 9 + length (take (long_in xs) (drop 9 xs)) ≡ n = cc in z)

-- more records than bytes are never needed
lines_enough : (m k place : ℕ) (xs : List ℕ) → length xs ≤ m → length xs ≤ k → lines m place xs ≡ lines k place xs
unfolding lines
lines_enough zero zero place xs h l = refl
lines_enough zero (suc k) place [] h l = refl
lines_enough zero (suc k) place (x ∷ xs) h l = absurd (omega arith)
lines_enough (suc m) zero place [] h l = refl
lines_enough (suc m) zero place (x ∷ xs) h l = absurd (omega arith)
lines_enough (suc m) (suc k) place [] h l = refl
lines_enough (suc m) (suc k) place (x ∷ xs) h l = ap (λ (ys : List ℕ). line place (head (x ∷ xs)) ++ ys) (go (used (head (x ∷ xs))) refl (λ n. lines_enough m k (place + n) (drop n (x ∷ xs))))
  where
    go : (o : Option ℕ) → used (head (x ∷ xs)) ≡ o → ((n : ℕ) → length (drop n (x ∷ xs)) ≤ m → length (drop n (x ∷ xs)) ≤ k → lines m (place + n) (drop n (x ∷ xs)) ≡ lines k (place + n) (drop n (x ∷ xs))) → followed (λ n. lines m (place + n) (drop n (x ∷ xs))) o ≡ followed (λ n. lines k (place + n) (drop n (x ∷ xs))) o
    go None e ih = refl
    go (Some n) e ih =
        let w = used_within (x ∷ xs) n e in
        let d = length-drop n (x ∷ xs) in
        ih n (omega arith) (omega arith)

pub text_nothing : (place : ℕ) (xs : List ℕ) → length xs ≤ 0 → text place xs ≡ []
unfolding text lines
text_nothing place [] h = refl
text_nothing place (x ∷ xs) h = absurd (omega arith)

pub text_next : (place n : ℕ) (xs : List ℕ) → 0 < length xs → used (head xs) ≡ Some n → text place xs ≡ line place (head xs) ++ text (place + n) (drop n xs)
unfolding text lines
text_next place n [] h e = absurd (omega arith)
text_next place n (x ∷ xs) h e =
    let w = used_within (x ∷ xs) n e in
    let d = length-drop n (x ∷ xs) in
    ap (λ (o : Option ℕ). line place (head (x ∷ xs)) ++ followed (λ n. lines (length xs) (place + n) (drop n (x ∷ xs))) o) e
    ∙ ap (λ (ys : List ℕ). line place (head (x ∷ xs)) ++ ys) (lines_enough (length xs) (length (drop n (x ∷ xs))) (place + n) (drop n (x ∷ xs)) (omega arith) (omega arith))

pub text_last : (place : ℕ) (xs : List ℕ) → 0 < length xs → used (head xs) ≡ None → text place xs ≡ line place (head xs)
unfolding text lines
text_last place [] h e = absurd (omega arith)
text_last place (x ∷ xs) h e =
    ap (λ (o : Option ℕ). line place (head (x ∷ xs)) ++ followed (λ n. lines (length xs) (place + n) (drop n (x ∷ xs))) o) e ∙ append-nil (line place (head (x ∷ xs)))

-- ---- the loop over an input
-- the input from a place on, as it is lent
abbrev pub rest_of : List ℕ → ℕ → List ℕ
rest_of input place = take (length input - place) (drop place input)

rest_is : (input : List ℕ) (place : ℕ) → rest_of input place ≡ drop place input
rest_is input place = take_all (length input - place) (drop place input) (let d = length-drop place input in omega arith)

pub used_in : (input : List ℕ) (place n : ℕ) → place < length input → used (head (rest_of input place)) ≡ Some n → (0 < n) × (place + n ≤ length input)
used_in input place n h e =
    let d = length-drop place input in
    let w = used_within (drop place input) n (ap (λ (xs : List ℕ). used (head xs)) (sym (rest_is input place)) ∙ e) in
    (w.0, omega arith)

module _ (input before after : List ℕ) (place : ℕ) (h : place < length input) (inv : before ++ text place (drop place input) ≡ text 0 input)
    (ea : after ≡ before ++ line place (head (rest_of input place))) where
  some : 0 < length (drop place input)
  some = let d = length-drop place input in omega arith

  row_is : line place (head (rest_of input place)) ≡ line place (head (drop place input))
  row_is = ap (λ (xs : List ℕ). line place (head xs)) (rest_is input place)

  pub inputs_next : (n : ℕ) → used (head (rest_of input place)) ≡ Some n → after ++ text (place + n) (drop (place + n) input) ≡ text 0 input
  inputs_next n e =
      let eu : used (head (drop place input)) ≡ Some n = ap (λ (xs : List ℕ). used (head xs)) (sym (rest_is input place)) ∙ e in
      ap (λ (xs : List ℕ). xs ++ text (place + n) (drop (place + n) input)) ea ∙ append_assoc before (line place (head (rest_of input place))) (text (place + n) (drop (place + n) input))
      ∙ ap (λ (xs : List ℕ). before ++ xs) (ap₂ ◌++◌ row_is (ap (text (place + n)) (sym (drop-drop n place input))) ∙ sym (text_next place n (drop place input) some eu))
      ∙ inv

  pub inputs_last : used (head (rest_of input place)) ≡ None → after ≡ text 0 input
  inputs_last e =
      let eu : used (head (drop place input)) ≡ None = ap (λ (xs : List ℕ). used (head xs)) (sym (rest_is input place)) ∙ e in
      ea ∙ ap (λ (xs : List ℕ). before ++ xs) (row_is ∙ sym (text_last place (drop place input) some eu)) ∙ inv

pub inputs_done : (input before : List ℕ) (place : ℕ) → length input ≤ place → before ++ text place (drop place input) ≡ text 0 input → before ≡ text 0 input
inputs_done input before place h inv =
    let d = length-drop place input in
    sym (append-nil before) ∙ ap (λ (xs : List ℕ). before ++ xs) (sym (text_nothing place (drop place input) (omega arith))) ∙ inv
