-- The standard's inner rates are the four of the code.
-- Assumes nothing.
use Rattle.standard.specs.Profiles.{period}
use Rattle.standard.specs.declared.profile.InnerRate.{InnerRate}
use Rattle.standard.specs.declared.profile.InnerRate.TheVariants.{Half, TwoThirds, ThreeQuarters, FiveSixths}
use Rattle.inner_code.specs.Inner.{Rated, half, two_thirds, three_quarters, five_sixths}

pub rated : (r : InnerRate) → Rated (period r)
rated Half = half
rated TwoThirds = two_thirds
rated ThreeQuarters = three_quarters
rated FiveSixths = five_sixths
