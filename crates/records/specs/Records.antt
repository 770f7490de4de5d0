-- Records: what stands at a place of the input.
-- Assumes nothing.
use Rattle.std.specs.Prelude.{◌≡◌, ℕ, ◌+◌, ◌*◌, Bool, cond, ◌&&◌, List, length, take, drop, Ok, Err, Result, ◌==◌, nat_lt, slice_index}
use Rattle.standard.specs.declared.order.Request.{Request}
use Rattle.standard.specs.declared.refusal.Refusal.{Refusal}
use Rattle.standard.specs.declared.refusal.Refusal.TheVariants.{UnknownMark, CutShort}
use Rattle.records.specs.declared.record.Record.{Record}
use Rattle.records.specs.declared.record.Record.TheVariants as records
use Rattle.records.specs.declared.record.Mark.{Mark}
use Rattle.records.specs.declared.record.Mark.TheVariants as marks
use Rattle.records.specs.declared.record.Fault.{Fault}

-- a whole BU record with its request and data, or why there is none
pub data Head : Type 0 where
  burst : Request → List ℕ → Head
  broken : Mark → Refusal → Head

-- the bytes begin with the mark BU
abbrev pub marked : List ℕ → Bool
marked xs = slice_index xs 0 == 66 && slice_index xs 1 == 85

-- a BU record: mark, five numbers of the order, the data's length in two bytes, high first, the data
abbrev pub request_in : List ℕ → Request
request_in xs = record { rate = slice_index xs 2; bsid = slice_index xs 3; uiuc = slice_index xs 4; frame = slice_index xs 5; symbols = slice_index xs 6 }

abbrev pub long_in : List ℕ → ℕ
long_in xs = 256 * slice_index xs 7 + slice_index xs 8

-- what begins at a place of the input, which is not its end; what is wrong with the mark is told first
abbrev pub head : List ℕ → Head
head xs =
    cond (nat_lt (length xs) 2) (broken marks.Unknown CutShort)
    (cond (marked xs)
    (cond (nat_lt (length xs) (9 + cond (nat_lt (length xs) 9) 0 (long_in xs))) (broken marks.Bu CutShort) (burst (request_in xs) (take (long_in xs) (drop 9 xs))))
    (broken marks.Unknown UnknownMark))

-- a record that was read: its place, and what it is
abbrev pub place_of : Record → ℕ
place_of (records.Bu at r d) = at

abbrev pub read_as : Record → Head
read_as (records.Bu at r d) = burst r d.now

-- what reading answers of the input from a place on
abbrev pub Reads : ℕ → List ℕ → Result Record Fault → Type 0
Reads place xs (Ok record') = (place_of record' ≡ place) × (head xs ≡ read_as record')
Reads place xs (Err f) = (f.place ≡ place) × (head xs ≡ broken f.mark f.refusal)
