-- Sixteen lanes of two rows, compared at once.
-- Assumes nothing.
use Rattle.std.proofs.Common.{◌≡◌, ℕ, suc, ◌+◌, ◌-◌, ◌*◌, ◌/◌, ◌%◌, ◌^◌, ◌<◌, ◌≤◌, min, Bool, false, cond, ltb, List, [], ◌∷◌, ◌++◌, map, length, get_or, take, drop, replicate, sym, refl, ap, ◌∙◌, subst, ⊎_elim, lt_of_lt_of_le, mod-eq_of_lt, mul_assoc, mul_comm, mul-one, arith, length-append, pow_mono, w16, w32, le-ltb, lt-ltb}
use native.Mathlib.Nat.{pow-succ'}
use borrow.Rule.Slice.PartMut.{put_mid, mid_of, post_of, mid_len}
use lib.Bits.{bit_or, or_shifted_r}
use lib.Lanes.{zip2, sel_l, top, mask_l, chunk, put_chunk}
use mir.Syntax.{Width}
use mir.Val.{bits, hbits}
use Rattle.std.proofs.lemmas.Bool.{cases_lt}
use Rattle.std.proofs.lemmas.List.{get_or_append_left, get_or-append_right, get_or-take, get_or-drop, length-take-le}
use Rattle.std.proofs.lemmas.Simd.{length-chunk, get_or-chunk, tops_compared, length-zip2, get_or-zip2, length-sel_l, get_or-sel_l, get_or-replicate, put_chunk_whole, mask_l-lt, mask_l-mod, bit_mask_l}
use Rattle.paths.proofs.Lanes.{Lanes, Chunk, Marks, Picks, Costs, capped_min}
use Rattle.paths.proofs.Rows.{Selected}

-- ---- of either width
abbrev less : Width → ℕ → ℕ → ℕ
less w a b = cond (ltb a b) (2 ^ bits w - 1) 0

-- lane by lane the less of two, as the vector instructions make it
abbrev lower : Width → List ℕ → List ℕ → List ℕ
lower w y x = sel_l (map (top (hbits w)) (zip2 (less w) y x)) y x

cond_min : (a b : ℕ) → cond (ltb b a) b a ≡ min a b
cond_min a b =
    ⊎_elim
    (λ l. ap (λ z. cond z b a) (lt-ltb b a l) ∙ omega arith)
    (λ l. ap (λ z. cond z b a) (le-ltb b a l) ∙ omega arith)
    (cases_lt b a)

tests : (w : Width) (y x : List ℕ) → map (top (hbits w)) (zip2 (less w) y x) ≡ zip2 ltb y x
tests w y x = tops_compared w ltb y x

length_tests : (n : ℕ) (y x : List ℕ) → length y ≡ n → length x ≡ n → length (zip2 ltb y x) ≡ n
length_tests n y x p q = length-zip2 ltb y x (p ∙ sym q) ∙ p

get_or_tests : (n : ℕ) (y x : List ℕ) → length y ≡ n → length x ≡ n → (j : ℕ) → j < n → get_or (zip2 ltb y x) j false ≡ ltb (get_or y j 0) (get_or x j 0)
get_or_tests n y x p q j h = get_or-zip2 ltb y x j 0 0 false (omega arith) (omega arith)

length_lower : (w : Width) (n : ℕ) (y x : List ℕ) → length y ≡ n → length x ≡ n → length (lower w y x) ≡ n
length_lower w n y x p q =
    let l = length_tests n y x p q in
    ap (λ z. length (sel_l z y x)) (tests w y x) ∙ (length-sel_l (zip2 ltb y x) y x (l ∙ sym p) (l ∙ sym q) ∙ l)

get_or_lower : (w : Width) (n : ℕ) (y x : List ℕ) → length y ≡ n → length x ≡ n → (j : ℕ) → j < n → get_or (lower w y x) j 0 ≡ min (get_or x j 0) (get_or y j 0)
get_or_lower w n y x p q j h =
    let l = length_tests n y x p q in
    ap (λ z. get_or (sel_l z y x) j 0) (tests w y x)
    ∙ (get_or-sel_l (zip2 ltb y x) y x j 0 (omega arith) (omega arith) (omega arith)
    ∙ (ap (λ z. cond z (get_or y j 0) (get_or x j 0)) (get_or_tests n y x p q j h) ∙ cond_min (get_or x j 0) (get_or y j 0)))

unfoldable pub part : ℕ → List ℕ → List ℕ
part at xs = chunk 0 16 (mid_of at ((at + 16) - at) xs)

length_part : (at : ℕ) (xs : List ℕ) → at + 16 ≤ length xs → length (part at xs) ≡ 16
unfolding part
length_part at xs h =
    let l = mid_len at (at + 16) xs h in
    length-chunk 0 16 (mid_of at ((at + 16) - at) xs) (omega arith)

get_d_part : (at : ℕ) (xs : List ℕ) (j : ℕ) → j < 16 → get_or (part at xs) j 0 ≡ get_or xs (at + j) 0
unfolding part
get_d_part at xs j h =
    get_or-chunk 0 16 (mid_of at ((at + 16) - at) xs) j 0 h
    ∙ (ap (λ n. get_or (mid_of at ((at + 16) - at) xs) n 0) (omega arith)
    ∙ (get_or-take ((at + 16) - at) (drop at xs) j 0 (omega arith) ∙ get_or-drop at xs j 0))

unfoldable pub put : ℕ → List ℕ → List ℕ → List ℕ
put at xs r = put_mid at ((at + 16) - at) xs (put_chunk 0 (mid_of at ((at + 16) - at) xs) r)

put_is : (at : ℕ) (xs r : List ℕ) → at + 16 ≤ length xs → length r ≡ 16 → put at xs r ≡ take at xs ++ (r ++ post_of at ((at + 16) - at) xs)
unfolding put
put_is at xs r h l =
    let m = mid_len at (at + 16) xs h in
    ap (λ z. put_mid at ((at + 16) - at) xs z) (put_chunk_whole (mid_of at ((at + 16) - at) xs) r (omega arith))

get_or_put : (at : ℕ) (xs r : List ℕ) → at + 16 ≤ length xs → length r ≡ 16 → (j : ℕ) → j < 16 → get_or (put at xs r) (at + j) 0 ≡ get_or r j 0
get_or_put at xs r h l j lt =
    let front : length (take at xs) ≡ at = length-take-le at xs (omega arith) in
    ap (λ z. get_or z (at + j) 0) (put_is at xs r h l)
    ∙ (get_or-append_right (take at xs) (r ++ post_of at ((at + 16) - at) xs) at (at + j) 0 front (omega arith)
    ∙ (ap (λ n. get_or (r ++ post_of at ((at + 16) - at) xs) n 0) (omega arith) ∙ get_or_append_left r (post_of at ((at + 16) - at) xs) 0 j (omega arith)))

get_or_put_below : (at : ℕ) (xs r : List ℕ) → at + 16 ≤ length xs → length r ≡ 16 → (t : ℕ) → t < at → get_or (put at xs r) t 0 ≡ get_or xs t 0
get_or_put_below at xs r h l t lt =
    let front : length (take at xs) ≡ at = length-take-le at xs (omega arith) in
    ap (λ z. get_or z t 0) (put_is at xs r h l)
    ∙ (get_or_append_left (take at xs) (r ++ post_of at ((at + 16) - at) xs) 0 t (omega arith) ∙ get_or-take at xs t 0 lt)

unfoldable pub caps : List ℕ
caps = replicate 16 536870912

length_caps : length caps ≡ 16
unfolding caps
length_caps = refl

get_or_caps : (j : ℕ) → j < 16 → get_or caps j 0 ≡ 536870912
unfolding caps
get_or_caps j h = get_or-replicate {A = ℕ} 16 j 536870912 0 h

module _ (a b old : List ℕ) (at : ℕ) (la : length a ≡ 64) (lb : length b ≡ 64) (lo : length old ≡ 64) (h : at + 16 ≤ 64) where
  marks_at : (w : Width) → Marks a b (mask_l (map (top (hbits w)) (zip2 (less w) (part at b) (part at a))) % 2 ^ 64) at 16
  marks_at w =
      let pa : length (part at a) ≡ 16 = length_part at a (omega arith) in
      let pb : length (part at b) ≡ 16 = length_part at b (omega arith) in
      let lt = length_tests 16 (part at b) (part at a) pb pa in (
        zip2 ltb (part at b) (part at a),
        lt,
        ap (λ z. mask_l z % 2 ^ 64) (tests w (part at b) (part at a)) ∙ mask_l-mod (zip2 ltb (part at b) (part at a)) 64 (omega arith),
        λ j l. get_or_tests 16 (part at b) (part at a) pb pa j l ∙ (ap (λ z. ltb z (get_or (part at a) j 0)) (get_d_part at b j l) ∙ ap (λ z. ltb (get_or b (at + j) 0) z) (get_d_part at a j l)),
      )

  -- in sixteen bits a cost, by the vectors' minimum
  pub narrow_lanes : Lanes min a b old (put at old (lower w16 (part at a) (part at b))) (mask_l (map (top 15) (zip2 (less w16) (part at b) (part at a))) % 2 ^ 64) at
  narrow_lanes =
      let pa : length (part at a) ≡ 16 = length_part at a (omega arith) in
      let pb : length (part at b) ≡ 16 = length_part at b (omega arith) in
      let ll = length_lower w16 16 (part at a) (part at b) pa pb in
      record {
        costs = λ j l.
            get_or_put at old (lower w16 (part at a) (part at b)) (omega arith) ll j l
            ∙ (let e = get_or_lower w16 16 (part at a) (part at b) pa pb j l in
            let x = get_d_part at a j l in
            let y = get_d_part at b j l in
            omega arith);
        below = λ t l. get_or_put_below at old (lower w16 (part at a) (part at b)) (omega arith) ll t l;
        marks = marks_at w16;
      }

  -- in thirty-two bits, by the comparison and a cap
  pub wide_lanes : Lanes capped_min a b old (put at old (lower w32 (lower w32 (part at b) (part at a)) caps)) (mask_l (map (top 31) (zip2 (less w32) (part at b) (part at a))) % 2 ^ 64) at
  wide_lanes =
      let pa : length (part at a) ≡ 16 = length_part at a (omega arith) in
      let pb : length (part at b) ≡ 16 = length_part at b (omega arith) in
      let lc : length caps ≡ 16 = length_caps in
      let ll = length_lower w32 16 (part at b) (part at a) pb pa in
      let lr = length_lower w32 16 (lower w32 (part at b) (part at a)) caps ll lc in
      record {
        costs = λ j l.
            get_or_put at old (lower w32 (lower w32 (part at b) (part at a)) caps) (omega arith) lr j l
            ∙ (get_or_lower w32 16 (lower w32 (part at b) (part at a)) caps ll lc j l
            ∙ (let e = get_or_lower w32 16 (part at b) (part at a) pb pa j l in
            let x = get_d_part at a j l in
            let y = get_d_part at b j l in
            let z : get_or caps j 0 ≡ 536870912 = get_or_caps j l in
            omega arith));
        below = λ t l. get_or_put_below at old (lower w32 (lower w32 (part at b) (part at a)) caps) (omega arith) lr t l;
        marks = marks_at w32;
      }

-- ---- the masks, one after the other
mask_l_append : (xs ys : List Bool) → mask_l (xs ++ ys) ≡ mask_l ys * 2 ^ length xs + mask_l xs
mask_l_append [] ys = sym (mul-one (mask_l ys)) ∙ omega arith
mask_l_append (x ∷ xs) ys =
    let e = mask_l_append xs ys in
    let p : 2 ^ suc (length xs) ≡ 2 * 2 ^ length xs = pow-succ' 2 (length xs) in
    let q : mask_l ys * 2 ^ suc (length xs) ≡ 2 * (mask_l ys * 2 ^ length xs) = ap (λ z. mask_l ys * z) p ∙ (sym (mul_assoc (mask_l ys) 2 (2 ^ length xs)) ∙ (ap (λ z. z * 2 ^ length xs) (mul_comm (mask_l ys) 2) ∙ mul_assoc 2 (mask_l ys) (2 ^ length xs))) in
    omega arith

pub picks_more : (a b old new : List ℕ) (word mask at : ℕ) → at + 16 ≤ 64 → Picks a b old word 0 at → Chunk a b old new mask at → Picks a b new (bit_or word ((mask * 2 ^ at) % 2 ^ 64)) 0 (at + 16)
picks_more a b old new word mask at h (ms, lm, em, gm) more =
    let ns = more.picks.0 in
    let ln = more.picks.1 in
    let en = more.picks.2 in
    let both : length (ms ++ ns) ≡ at + 16 = length-append ms ns ∙ omega arith in
    let sum : mask_l (ms ++ ns) ≡ mask * 2 ^ at + word = mask_l_append ms ns ∙ (ap (λ z. mask_l ns * 2 ^ z + mask_l ms) lm ∙ ap (λ z. z * 2 ^ at + mask_l ms) (sym en) ∙ ap (λ z. mask * 2 ^ at + z) (sym em)) in
    let low : word < 2 ^ at = subst (λ z. word < 2 ^ z) lm (subst (λ z. z < 2 ^ length ms) (sym em) (mask_l-lt ms)) in
    let top64 : mask_l (ms ++ ns) < 2 ^ 64 = lt_of_lt_of_le (mask_l-lt (ms ++ ns)) (pow_mono {i = length (ms ++ ns)} {j = 64} (omega arith)) in
    let fits : (mask * 2 ^ at) % 2 ^ 64 ≡ mask * 2 ^ at = mod-eq_of_lt (omega arith) in
    let whole : bit_or word ((mask * 2 ^ at) % 2 ^ 64) ≡ mask_l (ms ++ ns) = ap (bit_or word) fits ∙ (or_shifted_r mask at word low ∙ sym sum) in (
      ms ++ ns,
      both,
      whole,
      λ j l came. ⊎_elim
          (λ x. get_or_append_left ms ns false j (omega arith) ∙ gm j x (let e = more.below (0 + j) (omega arith) in omega arith))
          (λ x.
          let same : at + (j - at) ≡ 0 + j = omega arith in
          get_or-append_right ms ns at j false lm x
          ∙ (more.picks.3 (j - at) (omega arith) (subst (λ n. get_or new n 0 < 536870912) (sym same) came)
          ∙ ap (λ n. ltb (get_or b n 0) (get_or a n 0)) same))
          (cases_lt j at),
    )

pub costs_more : (a b old new : List ℕ) (mask at : ℕ) → Chunk a b old new mask at → Costs a b old at → Costs a b new (at + 16)
costs_more a b old new mask at l c t h =
    ⊎_elim
    (λ x. l.below t x ∙ c t x)
    (λ x. let e : at + (t - at) ≡ t = omega arith in subst (λ n. get_or new n 0 ≡ capped_min (get_or a n 0) (get_or b n 0)) e (l.costs (t - at) (omega arith)))
    (cases_lt t at)

-- ---- all sixty-four lanes
pub selected : (a b next : List ℕ) (word n : ℕ) → n ≡ 64 → Costs a b next n → Picks a b next word 0 n → Selected a b next word
selected a b next word n is costs (ms, lm, em, gm) = record {
  costs = λ t h. costs t (omega arith);
  choice = λ t h came. ap (λ z. z / 2 ^ t % 2) em ∙ (bit_mask_l ms t ∙ ap (λ z. cond z 1 0) (gm t (omega arith) (subst (λ n. get_or next n 0 < 536870912) (omega arith) came) ∙ ap (λ n. ltb (get_or b n 0) (get_or a n 0)) (omega arith)));
}
