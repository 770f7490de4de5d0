-- Refusals: their numbers, and which of several conditions is told.
-- Assumes nothing.
use Rattle.std.specs.Prelude.{◌≡◌, ℕ, ◌-◌, ◌*◌, Bool, cond, not, ◌||◌, List, [], ◌∷◌, ◌++◌, Some, None, Ok, Err, Option, Result, ◌==◌, nat_lt, slice_index}
use Rattle.standard.specs.declared.refusal.Refusal.{Refusal}
use Rattle.standard.specs.declared.refusal.Refusal.TheVariants.{Rate, Identity, Symbols, DataLength, PointCount, Output, Memory, Block, UnknownMark, CutShort}
use Rattle.standard.specs.declared.order.Request.{Request}
use Rattle.standard.specs.declared.order.Order.{Order}
use Rattle.standard.specs.Profiles.{profile}

abbrev pub number : Refusal → ℕ
number Rate = 1
number Identity = 2
number Symbols = 3
number DataLength = 4
number PointCount = 5
number Output = 6
number Memory = 7
number (Block k) = 8
number UnknownMark = 19
number CutShort = 20

-- a refusal, and whether its condition holds
pub record Row : Type 0 where
  pub refusal : Refusal
  pub applies : Bool

abbrev pub row : Refusal → Bool → Row
row e b = record { refusal = e; applies = b }

-- the first refusal whose condition holds
abbrev pub first : List Row → Option Refusal
first [] = None
first (r ∷ rs) = cond r.applies (Some r.refusal) (first rs)

-- why a call refused, if it did
abbrev pub refused : {T : Type 0} → Result T Refusal → Option Refusal
refused (Ok x) = None
refused (Err e) = Some e

-- the conditions on a request, in the order in which they are looked at
abbrev pub request_rows : Request → List Row
request_rows r =
    row Rate (nat_lt 6 r.rate)
    ∷ row Identity (nat_lt 15 r.bsid || nat_lt 15 r.uiuc || nat_lt 15 r.frame)
    ∷ row Symbols (r.symbols == 0 || nat_lt 8 r.symbols)
    ∷ []

-- how many data bytes a burst of n symbols carries: one byte is the tail
abbrev pub capacity : ℕ → ℕ → ℕ
capacity rate n = n * (profile rate).message - 1

-- a request with its data
abbrev pub burst_rows : Request → ℕ → List Row
burst_rows r long = request_rows r ++ row DataLength (nat_lt (capacity r.rate r.symbols) long) ∷ []

-- a request with its data and room for points
abbrev pub encode_rows : Request → ℕ → ℕ → List Row
encode_rows r long room = burst_rows r long ++ row PointCount (not (room == 192 * r.symbols)) ∷ []

-- the request that five bytes hold
abbrev pub Read : List ℕ → Request → Type 0
Read b r = (r.rate ≡ slice_index b 0) × (r.bsid ≡ slice_index b 1) × (r.uiuc ≡ slice_index b 2) × (r.frame ≡ slice_index b 3) × (r.symbols ≡ slice_index b 4)

-- the request that an order was
abbrev pub asked : Order → Request
asked o = record { rate = o.rate; bsid = o.bsid; uiuc = o.uiuc; frame = o.frame; symbols = o.symbols }

-- an order is made of the request as it stands, and of none that is refused
abbrev pub Accepted : Request → Result Order Refusal → Type 0
Accepted r (Ok o) = (first (request_rows r) ≡ None) × (asked o ≡ r)
Accepted r (Err e) = first (request_rows r) ≡ Some e
