-- The worked cases, computed.
-- Assumes nothing.
use Rattle.std.proofs.Common.{refl}
use Rattle.words.specs.Words.{value, ones}
use Rattle.scrambler.specs.Scrambler.{fresh, pushed, after, scrambled}
use Rattle.inner_code.specs.Inner.{earlier, coded}
use Rattle.interleaver.specs.Interleaver.{spread, turned, place}
use Rattle.constellation.proofs.Nearness.{decision_cases}
use Rattle.coder.specs.Cases.{Cases}

pub cases : Cases
unfolding value ones fresh pushed after scrambled earlier coded spread turned place
cases =
    record {
      stages = refl;
      scrambling = refl;
      half = refl;
      weight = refl;
      five_sixths = refl;
      spreads = refl;
      goes = refl;
      mapped = refl;
      decided = decision_cases;
      fits = refl;
      too_long = refl;
      fits_all = refl;
      too_long_for_all = refl;
      told = refl;
    }
