-- Slips: how far points were moved, counted in steps of a level. A slip can turn at most one bit of a decision.
-- Assumes nothing.
use Rattle.std.specs.Prelude.{◌≡◌, ℕ, ◌+◌, ◌*◌, ◌/◌, ◌<◌, ◌≤◌, List, slice_index_or}
use Rattle.words.specs.Words.{Bits, ones, plus, total}
use Rattle.standard.specs.Profiles.{Modulation}
use Rattle.standard.specs.declared.point.Point.{Point}
use Rattle.constellation.specs.Constellation.{point, origin}
use Rattle.constellation.specs.Decisions.{Heard, apart}

-- the slips of an axis that was moved by d counts
abbrev pub slips : ℕ → ℕ
slips d = (d + 256) / 512

-- those of a carrier, over both axes
abbrev pub slipped : Point → Point → ℕ
slipped given heard = slips (apart given.i heard.i) + slips (apart given.q heard.q)

-- those of n carriers
abbrev pub slips_of : ℕ → List Point → List Point → ℕ
slips_of n given heard = total n (λ t. slipped (slice_index_or given t origin) (slice_index_or heard t origin))

-- no more bits are decided otherwise than the moves of the points make slips, for every modulation
abbrev pub SlipsBound : Type 0
SlipsBound =
    (c n : ℕ) (sent bits : Bits) (given heard : List Point) → Modulation c → ((t : ℕ) → t < n → slice_index_or given t origin ≡ point c sent t) → Heard c n heard bits
    → ones (c * n) (plus bits sent) ≤ slips_of n given heard

-- Moves of 255, 256, 767 and 768 counts.
pub record SlipCases : Type 0 where
  pub at_255 : slips 255 ≡ 0
  pub at_256 : slips 256 ≡ 1
  pub at_767 : slips 767 ≡ 1
  pub at_768 : slips 768 ≡ 2
