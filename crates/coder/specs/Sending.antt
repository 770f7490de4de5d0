-- Sending: from the data of a request to its points, step by step. Every step is a word by position.
-- Assumes nothing.
use Rattle.std.specs.Prelude.{◌≡◌, ℕ, ◌+◌, ◌*◌, ◌/◌, ◌%◌, ◌<◌, ◌≤◌, cond, List, length, nat_lt, slice_index, slice_index_or, unsigned_abs}
use Rattle.words.specs.Words.{Bits, Bytes, bits, part}
use Rattle.standard.specs.declared.order.Request.{Request}
use Rattle.standard.specs.declared.point.Point.{Point}
use Rattle.standard.specs.declared.profile.Profile.{Profile}
use Rattle.standard.specs.Profiles.{profile, period}
use Rattle.standard.specs.Refusals.{capacity}
use Rattle.scrambler.specs.Scrambler.{start, scrambled}
use Rattle.outer_code.specs.Blocks.{blocks}
use Rattle.outer_code.specs.Outer.{Outer}
use Rattle.inner_code.specs.Inner.{coded}
use Rattle.interleaver.specs.Interleaver.{Interleaved, size, source}
use Rattle.constellation.specs.Constellation.{point, origin}

-- all sixteen subchannels
abbrev pub band : ℕ
band = 16

abbrev pub profiled : Request → Profile
profiled r = profile r.rate

-- the data, filled up with FF
abbrev pub filled : List ℕ → Bytes
filled d i = cond (nat_lt i (length d)) (slice_index d i) 255

-- the first m bytes, and the tail 00 after them
abbrev pub tailed : ℕ → Bytes → Bytes
tailed m w i = cond (nat_lt i m) (w i) 0

-- what the outer code protects: the data filled up and scrambled; one tail for the burst, not scrambled
unfoldable pub message : Request → List ℕ → Bytes
message r d = tailed (capacity r.rate r.symbols) (scrambled (start r.bsid r.uiuc r.frame) (filled d))

-- a block for each symbol
unfoldable pub protected : Request → List ℕ → Bytes
protected r d = blocks (profiled r).message (profiled r).limit (message r d)

-- the inner code runs through the burst without a restart
unfoldable pub coded_bits : Request → List ℕ → Bits
coded_bits r d = coded (period (profiled r).inner) (bits (protected r d))

-- the bits of one symbol
abbrev pub symbol_bits : Request → ℕ
symbol_bits r = size band (profiled r).bits

abbrev pub burst_length : Request → ℕ
burst_length r = symbol_bits r * r.symbols

-- the bits in the order sent: place j of a symbol has the coded bit that the interleaver brings there
unfoldable pub sent : Request → List ℕ → Bits
sent r d j = coded_bits r d (symbol_bits r * (j / symbol_bits r) + source band (profiled r).bits (j % symbol_bits r))

-- the points of a burst, 192 to a symbol, in rising order of carriers
pub record Sent (r : Request) (d : List ℕ) (points : List Point) : Type 0 where
  pub count : length points ≡ 192 * r.symbols
  pub point : (t : ℕ) → t < 192 * r.symbols → slice_index_or points t origin ≡ point (profiled r).bits (sent r d) t

-- What holds of every burst sent, above the steps.
pub record Lawful (r : Request) (d : List ℕ) : Type 0 where
  -- every block is an outer word
  pub words : (b : ℕ) → b < r.symbols → Outer (profiled r).message (profiled r).limit (part (profiled r).block ((profiled r).block * b) (protected r d))
  -- the sent bits are the coded ones, each symbol interleaved
  pub interleaved : Interleaved band (profiled r).bits r.symbols (coded_bits r d) (sent r d)
  -- no axis is farther out than 1,792 counts
  pub in_range : (t : ℕ) → (unsigned_abs (point (profiled r).bits (sent r d) t).i ≤ 1792) × (unsigned_abs (point (profiled r).bits (sent r d) t).q ≤ 1792)
