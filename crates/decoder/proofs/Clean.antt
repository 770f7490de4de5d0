-- Points as they were sent are decoded to the data, filled up.
-- Assumes nothing.
use Rattle.std.proofs.Common.{◌≡◌, ℕ, zero, suc, ◌+◌, ◌-◌, ◌*◌, ◌/◌, ◌%◌, ◌<◌, Bool, true, false, cond, ltb, List, [], ◌∷◌, ◌++◌, length, get_or, drop, Some, None, Ok, Err, Result, sym, refl, ap, ◌∙◌, subst, ap₂, inl, inr, mod-lt, mul_assoc, mul_comm, div-lt_iff_lt-mul, mul-le-mul_left, mul-suc, arith, le-ltb, lt-ltb}
use native.Mathlib.Nat.{div-add-mod}
use Rattle.words.specs.Words.{Bits, bits, bytes, part, total, word}
use Rattle.words.proofs.Bridge.{bytes_bits, get_or_listed, length_listed, listed_same, value_same}
use Rattle.standard.specs.declared.order.Request.{Request}
use Rattle.standard.specs.declared.point.Point.{Point}
use Rattle.standard.specs.declared.refusal.Refusal.{Refusal}
use Rattle.standard.specs.Profiles.{Fitting, period}
use Rattle.standard.specs.Refusals.{Row, capacity, first, request_rows}
use Rattle.standard.proofs.Bounds.{bounded}
use Rattle.standard.proofs.Fits.{profiles_fit}
use Rattle.scrambler.specs.Scrambler.{start, scrambled}
use Rattle.scrambler.proofs.Keys.{scrambled_same, twice}
use Rattle.field.proofs.Field.{add_self}
use Rattle.outer_code.specs.Blocks.{blocks}
use Rattle.outer_code.specs.Outer.{AreBytes, Outer}
use Rattle.outer_code.proofs.Blocks.{blocks_lt, blocks_message}
use Rattle.outer_theory.specs.Syndromes.{differing}
use Rattle.outer_theory.proofs.Sums.{count_none}
use Rattle.outer_theory.proofs.Iff.{only_one}
use Rattle.inner_code.specs.Inner.{coded}
use Rattle.inner_code.proofs.Coding.{coded_same}
use Rattle.inner_code.proofs.Rates.{rated}
use Rattle.inner_words.specs.InnerWords.{Tailed}
use Rattle.inner_words.proofs.Words.{heard_clean, nearest_clean, tailed_bits}
use Rattle.interleaver.specs.Interleaver.{place}
use Rattle.interleaver.proofs.Laws.{permutation}
use Rattle.interleaver.proofs.Writing.{symbol_ends}
use Rattle.constellation.proofs.Hearing.{decisions}
use Rattle.coder.specs.Sending.{band, profiled, filled, message, protected, coded_bits, symbol_bits, burst_length, sent, Sent}
use Rattle.coder.proofs.Lawfulness.{lawful, message_lt, sent_goes}
use Rattle.coder.proofs.Steps.{Periods, periods}
use Rattle.decoder.specs.Taken.{Taken}
use Rattle.decoder.specs.Receiving.{Inner, Decodes, RoundTrip, block, message_of, wrong_count, decode_rows}
use Rattle.decoder.specs.declared.report.Report.{Report}

-- a block does not differ from itself
none_differ : (xs : List ℕ) → differing xs xs ≡ 0
none_differ xs = count_none (length xs) (λ k. _) (λ k h. add_self (word xs k))

total_none : (n : ℕ) (f : ℕ → ℕ) → ((k : ℕ) → k < n → f k ≡ 0) → total n f ≡ 0
total_none zero f h = refl
total_none (suc n) f h = ap₂ ◌+◌ (total_none n f (λ k l. h k (omega arith))) (h n (omega arith))

module _ (r : Request) (d : List ℕ) (given : AreBytes d) (none : first (request_rows r) ≡ None) where
  fits : Fitting (profiled r)
  fits = profiles_fit r.rate (bounded r none).rate

  count : Periods (period (profiled r).inner) r.symbols (profiled r).block (profiled r).bits (8 * (r.symbols * (profiled r).block) / period (profiled r).inner)
  count = periods (profiled r).inner r.symbols (profiled r).block (profiled r).bits fits.whole

  some_message : 0 < (profiled r).message
  some_message = omega (arith, fits.some)

  -- message byte t of block b
  protected_message : (b t : ℕ) → t < (profiled r).message → protected r d ((profiled r).block * b + (2 * (profiled r).limit + t)) ≡ message r d ((profiled r).message * b + t)
  unfolding protected
  protected_message b t h =
      ap (λ (x : ℕ). blocks (profiled r).message (profiled r).limit (message r d) (x * b + (2 * (profiled r).limit + t))) fits.parity
      ∙ blocks_message (profiled r).message (profiled r).limit some_message fits.correctable (message r d) b t h

  -- the last byte is the tail
  last_byte : (b : ℕ) → b + 1 ≡ r.symbols → protected r d ((profiled r).block * b + ((profiled r).block - 1)) ≡ 0
  unfolding message
  last_byte b e =
      ap (λ (x : ℕ). protected r d ((profiled r).block * b + x)) (let p = fits.parity in let s = some_message in let q : (profiled r).block - 1 ≡ 2 * (profiled r).limit + ((profiled r).message - 1) = omega arith in q)
      ∙ protected_message b ((profiled r).message - 1) (let s = some_message in omega arith)
      ∙ ap (λ (x : Bool). cond x (scrambled (start r.bsid r.uiuc r.frame) (filled d) ((profiled r).message * b + ((profiled r).message - 1))) 0)
      (le-ltb ((profiled r).message * b + ((profiled r).message - 1)) (capacity r.rate r.symbols)
      (let s = some_message in let m : r.symbols * (profiled r).message ≡ (profiled r).message * b + (profiled r).message = ap (λ (x : ℕ). x * (profiled r).message) (sym e ∙ native.Mathlib.Numerals.add-one b) ∙ mul_comm (suc b) (profiled r).message ∙ mul-suc (profiled r).message b in omega arith))

  protected_lt : (i : ℕ) → protected r d i < 256
  unfolding protected
  protected_lt i = blocks_lt (profiled r).message (profiled r).limit some_message fits.correctable (message r d) (message_lt r d) i

  tailed : Tailed (period (profiled r).inner * (8 * (r.symbols * (profiled r).block) / period (profiled r).inner)) (bits (protected r d))
  tailed =
      subst (λ (n : ℕ). Tailed n (bits (protected r d))) (let n : 8 * (r.symbols * (profiled r).block - 1 + 1) ≡ 8 * (r.symbols * (profiled r).block) = omega (arith, positive) in n ∙ count.whole)
      (tailed_bits (protected r d) (r.symbols * (profiled r).block - 1) (ap (protected r d) where_last ∙ last_byte (r.symbols - 1) (let s = (bounded r none).some in omega arith)))
    where
      shape : r.symbols * (profiled r).block ≡ (profiled r).block * (r.symbols - 1) + (profiled r).block
      shape = mul_comm r.symbols (profiled r).block ∙ ap (λ (x : ℕ). (profiled r).block * x) (let s = (bounded r none).some in let q : r.symbols ≡ suc (r.symbols - 1) = omega arith in q) ∙ mul-suc (profiled r).block (r.symbols - 1)

      positive : 0 < r.symbols * (profiled r).block
      positive = let s = shape in let p = fits.parity in let m = some_message in omega arith

      where_last : r.symbols * (profiled r).block - 1 ≡ (profiled r).block * (r.symbols - 1) + ((profiled r).block - 1)
      where_last = let s = shape in let p = fits.parity in let m = some_message in omega arith

  module _ (points : List Point) (s : Sent r d points) (heard found : Bits) (inner : Inner r points heard found) where
    order_is : (k : ℕ) → k < burst_length r → inner.received.order k ≡ sent r d k
    order_is k h =
        decisions.heard_sent (profiled r).bits (192 * r.symbols) points (sent r d) inner.received.order fits.modulation s.point inner.received.heard k
        (subst (λ (n : ℕ). k < n) (mul_assoc 192 (profiled r).bits r.symbols ∙ ap (λ (x : ℕ). 192 * x) (mul_comm (profiled r).bits r.symbols) ∙ sym (mul_assoc 192 r.symbols (profiled r).bits) ∙ mul_comm (192 * r.symbols) (profiled r).bits) h)

    heard_is : (j : ℕ) → j < burst_length r → heard j ≡ coded_bits r d j
    heard_is =
        permutation.coded_by_sent band (profiled r).bits r.symbols heard (coded_bits r d) (sent r d) (omega arith) fits.modulation
        (record { goes = λ b k hb hk. sym (order_is (symbol_bits r * b + place band (profiled r).bits k) (inside b (place band (profiled r).bits k) hb (permutation.below band (profiled r).bits k (omega arith) fits.modulation hk))) ∙ inner.received.interleaved.goes b k hb hk })
        (sent_goes r d fits.modulation)
      where
        inside : (b k : ℕ) → b < r.symbols → k < symbol_bits r → symbol_bits r * b + k < burst_length r
        inside b k hb hk = let e = symbol_ends (symbol_bits r) b r.symbols hb in omega arith

    coded_is : (j : ℕ) → j < (period (profiled r).inner + 1) * (8 * (r.symbols * (profiled r).block) / period (profiled r).inner) → heard j ≡ coded (period (profiled r).inner) (bits (protected r d)) j
    unfolding coded_bits
    coded_is j h = heard_is j (subst (λ (n : ℕ). j < n) count.coded h)

    found_is : (k : ℕ) → k < 8 * (r.symbols * (profiled r).block) → found k ≡ bits (protected r d) k
    found_is k h =
        nearest_clean (period (profiled r).inner) (8 * (r.symbols * (profiled r).block) / period (profiled r).inner) heard (bits (protected r d)) found (rated (profiled r).inner) tailed coded_is inner.nearest k
        (subst (λ (n : ℕ). k < n) count.whole h)

    pub none_wrong : wrong_count r heard found ≡ 0
    none_wrong =
        heard_clean (period (profiled r).inner) (8 * (r.symbols * (profiled r).block) / period (profiled r).inner) heard found
        (λ j h. coded_is j h ∙ sym (coded_same (period (profiled r).inner) (8 * (r.symbols * (profiled r).block) / period (profiled r).inner) found (bits (protected r d)) (rated (profiled r).inner) (λ k l. found_is k (subst (λ (n : ℕ). k < n) (sym count.whole) l)) j h))

    byte_is : (i : ℕ) → i < r.symbols * (profiled r).block → bytes found i ≡ protected r d i
    byte_is i h =
        value_same 8 (λ t. found (8 * i + t)) (λ t. bits (protected r d) (8 * i + t)) (λ t l. found_is (8 * i + t) (omega arith)) ∙ bytes_bits (protected r d) i (protected_lt i)

    in_block : (b k : ℕ) → b < r.symbols → k < (profiled r).block → (profiled r).block * b + k < r.symbols * (profiled r).block
    in_block b k hb hk = let a = mul-le-mul_left (profiled r).block hb in let e = mul-suc (profiled r).block b in let c = mul_comm (profiled r).block r.symbols in omega arith

    block_is : (b : ℕ) → b < r.symbols → block r found b ≡ part (profiled r).block ((profiled r).block * b) (protected r d)
    block_is b h = listed_same (profiled r).block (λ k. bytes found ((profiled r).block * b + k)) (λ k. protected r d ((profiled r).block * b + k)) (λ k l. byte_is ((profiled r).block * b + k) (in_block b k h l))

    block_long : (b : ℕ) → length (block r found b) ≡ 2 * (profiled r).limit + (profiled r).message
    block_long b = length_listed (profiled r).block (λ k. bytes found ((profiled r).block * b + k)) ∙ fits.parity

    block_byte : (b k : ℕ) → b < r.symbols → k < (profiled r).block → get_or (block r found b) k 0 ≡ protected r d ((profiled r).block * b + k)
    block_byte b k h l = get_or_listed (profiled r).block (λ k. bytes found ((profiled r).block * b + k)) k l ∙ byte_is ((profiled r).block * b + k) (in_block b k h l)

    -- every block is itself the outer word to take
    pub own : (b : ℕ) → b < r.symbols → Taken r b (block r found b) (block r found b)
    own b h =
        record {
          outer = subst (Outer (profiled r).message (profiled r).limit) (sym (block_is b h)) ((lawful r d none).words b h);
          near = let z = none_differ (block r found b) in omega arith;
          tail = λ e. block_byte b ((profiled r).block - 1) h (let p = fits.parity in let m = some_message in omega arith) ∙ last_byte b e;
        }

    taken_is : (b : ℕ) (w : List ℕ) → b < r.symbols → Taken r b (block r found b) w → w ≡ block r found b
    taken_is b w h t =
        only_one (profiled r).message (profiled r).limit fits.correctable (omega (arith, fits.small)) (block r found b) w (block r found b) (block_long b) t.outer (own b h).outer t.near (own b h).near

    pub restored : (old new : List ℕ) (x y : ℕ) (words : ℕ → List ℕ) → ((b : ℕ) → b < r.symbols → Taken r b (block r found b) (words b)) → x ≡ wrong_count r heard found → y ≡ total r.symbols (λ b. differing (block r found b) (words b))
        → ((i : ℕ) → i < capacity r.rate r.symbols → get_or new i 0 ≡ scrambled (start r.bsid r.uiuc r.frame) (message_of r words) i)
        → (x ≡ 0) × (y ≡ 0) × ((i : ℕ) → i < capacity r.rate r.symbols → get_or new i 0 ≡ filled d i)
    unfolding message
    restored old new x y words taken ex ey written = (
      ex ∙ none_wrong,
      ey ∙ total_none r.symbols (λ b. differing (block r found b) (words b)) (λ b h. ap (differing (block r found b)) (taken_is b (words b) h (taken b h)) ∙ none_differ (block r found b)),
      λ i h. written i h ∙ scrambled_same (start r.bsid r.uiuc r.frame) (message_of r words) (scrambled (start r.bsid r.uiuc r.frame) (filled d)) (capacity r.rate r.symbols) (λ k l. data_is k l) i h
          ∙ twice (start r.bsid r.uiuc r.frame) (filled d) i (filled_lt i),
    )
      where
        filled_lt : (i : ℕ) → filled d i < 256
        filled_lt i = go (ltb i (length d))
          where
            go : (b : Bool) → cond b (get_or d i 0) 255 < 256
            go true = given i
            go false = omega arith

        data_is : (i : ℕ) → i < capacity r.rate r.symbols → message_of r words i ≡ scrambled (start r.bsid r.uiuc r.frame) (filled d) i
        data_is i h =
            let q : i / (profiled r).message < r.symbols = (div-lt_iff_lt-mul some_message).1 (omega arith) in
            let m = mod-lt i some_message in
            let p = fits.parity in
            ap (λ (w : List ℕ). get_or w (2 * (profiled r).limit + i % (profiled r).message) 0) (taken_is (i / (profiled r).message) (words (i / (profiled r).message)) q (taken (i / (profiled r).message) q))
            ∙ block_byte (i / (profiled r).message) (2 * (profiled r).limit + i % (profiled r).message) q (omega arith)
            ∙ protected_message (i / (profiled r).message) (i % (profiled r).message) m
            ∙ ap (message r d) (div-add-mod i (profiled r).message)
            ∙ ap (λ (x : Bool). cond x (scrambled (start r.bsid r.uiuc r.frame) (filled d) i) 0) (lt-ltb i (capacity r.rate r.symbols) h)

-- ---- the whole call
-- where no row applies, none of the first ones does
front : (xs ys : List Row) → first (xs ++ ys) ≡ None → first xs ≡ None
front [] ys h = refl
front (x ∷ xs) ys h = go x.applies (front xs ys) h
  where
    go : (b : Bool) → (first (xs ++ ys) ≡ None → first xs ≡ None) → cond b (Some x.refusal) (first (xs ++ ys)) ≡ None → cond b (Some x.refusal) (first xs) ≡ None
    go true ih h = absurd (let z : ◌≡◌ {A = ℕ} 0 1 = cc in omega arith)
    go false ih h = ih h

requested : (r : Request) (points room words : ℕ) → first (decode_rows r points room words) ≡ None → first (request_rows r) ≡ None
requested r points room words h = front (request_rows r) (drop 3 (decode_rows r points room words)) h

pub clean : (r : Request) (points : List Point) (words : ℕ) (old new : List ℕ) (answer : Result Report Refusal) → Decodes r points words old new answer → RoundTrip r points words old new answer
clean r points words old new (Ok report) (given, found) d bytes_of s none =
    restored r d bytes_of (requested r (length points) (length old) words none) points s found.heard found.word found.inner old new _ _ found.words found.taken found.wrong_is found.corrected_is found.written
clean r points words old new (Err e) (kept, inl told) d bytes_of s none = let z : ◌≡◌ {A = ℕ} 0 1 = cc in absurd (let b : ⊥ = omega arith in b)
clean r points words old new (Err e) (kept, inr (fine, untaken)) d bytes_of s none =
    let b = untaken.2 in
    b.none (block r b.word (untaken.0 - 1)) (own r d bytes_of (requested r (length points) (length old) words none) points s b.heard b.word b.inner (untaken.0 - 1) (let x = b.some in let y = b.within in omega arith))
