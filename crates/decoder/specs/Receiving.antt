-- Receiving: from the points of a burst back to its data.
-- Assumes nothing.
use Rattle.std.specs.Prelude.{◌≡◌, ℕ, ◌+◌, ◌-◌, ◌*◌, ◌/◌, ◌%◌, ◌<◌, ◌≤◌, not, ◌⊎◌, List, [], ◌∷◌, ◌++◌, length, Some, None, Ok, Err, Result, ◌==◌, nat_lt, slice_index}
use Rattle.words.specs.Words.{Bits, Bytes, bytes, part, total}
use Rattle.standard.specs.declared.order.Request.{Request}
use Rattle.standard.specs.declared.point.Point.{Point}
use Rattle.standard.specs.declared.refusal.Refusal.{Refusal}
use Rattle.standard.specs.declared.refusal.Refusal.TheVariants.{PointCount, Output, Memory, Block}
use Rattle.standard.specs.Profiles.{period}
use Rattle.standard.specs.Refusals.{Row, row, first, request_rows, capacity}
use Rattle.scrambler.specs.Scrambler.{start, scrambled}
use Rattle.outer_code.specs.Outer.{AreBytes}
use Rattle.outer_theory.specs.Syndromes.{differing}
use Rattle.inner_words.specs.InnerWords.{Nearest, wrong}
use Rattle.coder.specs.Sending.{Sent, filled, profiled}
use Rattle.decoder.specs.Hearing.{Received}
use Rattle.decoder.specs.Taken.{Taken}
use Rattle.decoder.specs.declared.report.Report.{Report}

-- the conditions on a request and its points, in the order in which they are looked at
abbrev pub points_rows : Request → ℕ → List Row
points_rows r points = request_rows r ++ row PointCount (not (points == 192 * r.symbols)) ∷ []

-- the conditions on a call, in the order in which they are looked at, but for the blocks themselves
abbrev pub decode_rows : Request → ℕ → ℕ → ℕ → List Row
decode_rows r points room words =
    points_rows r points
    ++ row Output (nat_lt room (capacity r.rate r.symbols))
    ∷ row Memory (nat_lt words 8192)
    ∷ []

-- how many periods of the puncturing a burst has
abbrev pub periods : Request → ℕ
periods r = 8 * (r.symbols * (profiled r).block) / period (profiled r).inner

-- what was heard, and the nearest inner word, by its input bits
pub record Inner (r : Request) (points : List Point) (heard word : Bits) : Type 0 where
  pub received : Received r points heard
  pub nearest : Nearest (period (profiled r).inner) (periods r) heard word

abbrev pub wrong_count : Request → Bits → Bits → ℕ
wrong_count r heard word = wrong (period (profiled r).inner) (periods r) word heard

-- block b of the inner word's bytes
abbrev pub block : Request → Bits → ℕ → List ℕ
block r word b = part (profiled r).block ((profiled r).block * b) (bytes word)

-- the message bytes of corrected blocks, one after another
abbrev pub message_of : Request → (ℕ → List ℕ) → Bytes
message_of r words i = slice_index (words (i / (profiled r).message)) (2 * (profiled r).limit + i % (profiled r).message)

-- every block has its outer word; what is answered and written is by these
pub record Data (r : Request) (points : List Point) (old new : List ℕ) (wrong corrected : ℕ) : Type 0 where
  pub heard : Bits
  pub word : Bits
  pub inner : Inner r points heard word
  pub words : ℕ → List ℕ
  pub taken : (b : ℕ) → b < r.symbols → Taken r b (block r word b) (words b)
  pub wrong_is : wrong ≡ wrong_count r heard word
  pub corrected_is : corrected ≡ total r.symbols (λ b. differing (block r word b) (words b))
  -- the tail is dropped, and the scrambler undone
  pub written : (i : ℕ) → i < capacity r.rate r.symbols → slice_index new i ≡ scrambled (start r.bsid r.uiuc r.frame) (message_of r words) i
  pub past : (i : ℕ) → capacity r.rate r.symbols ≤ i → slice_index new i ≡ slice_index old i

-- block number, counted from 1, is the first that has no outer word to take
pub record Broken (r : Request) (points : List Point) (number : ℕ) : Type 0 where
  pub heard : Bits
  pub word : Bits
  pub inner : Inner r points heard word
  pub some : 1 ≤ number
  pub within : number ≤ r.symbols
  pub none : (w : List ℕ) → Taken r (number - 1) (block r word (number - 1)) w → ⊥
  pub before : (b : ℕ) → b + 1 < number → (w : List ℕ) × Taken r b (block r word b) w

-- block k has no outer word to take, and the refusal tells it
abbrev pub Untaken : Request → List Point → Refusal → Type 0
Untaken r points e = (k : ℕ) × (e ≡ Block k) × Broken r points k

-- what decoding answers, and what it makes of the output: a refusal leaves it as it was
abbrev pub Decodes : Request → List Point → ℕ → List ℕ → List ℕ → Result Report Refusal → Type 0
Decodes r points words old new (Ok report) =
    (first (decode_rows r (length points) (length old) words) ≡ None) × Data r points old new report.wrong_bits report.corrected_bytes
Decodes r points words old new (Err e) =
    (new ≡ old)
    × ((first (decode_rows r (length points) (length old) words) ≡ Some e)
    ⊎ ((first (decode_rows r (length points) (length old) words) ≡ None) × Untaken r points e))

-- no bit was wrong and no byte was corrected, and the data stands there filled up
abbrev pub Restored : Request → List ℕ → List ℕ → Result Report Refusal → Type 0
Restored r d new (Ok report) = (report.wrong_bits ≡ 0) × (report.corrected_bytes ≡ 0) × ((i : ℕ) → i < capacity r.rate r.symbols → slice_index new i ≡ filled d i)
Restored r d new (Err e) = ⊥

-- the clean round trip: points as they were sent, and room for the data
abbrev pub RoundTrip : Request → List Point → ℕ → List ℕ → List ℕ → Result Report Refusal → Type 0
RoundTrip r points words old new answer =
    (d : List ℕ) → AreBytes d → Sent r d points → first (decode_rows r (length points) (length old) words) ≡ None → Restored r d new answer
