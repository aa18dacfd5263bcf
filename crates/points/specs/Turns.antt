-- Document 01, "round(x/TAU) × TAU" of rules 2 and 4, and "round(x/P) × P" of rules 7 and 8: the whole turns nearest to
-- x.
use Rattle.std.specs.Prelude.{Bool, not, ◌&&◌, Float}
use Rattle.std.specs.Float.{binary64}
use Rattle.std.specs.Float.Ieee.{mul, div, lt}
use Rattle.leaves.specs.Constants.{plus_zero, greatest_finite}
use Rattle.leaves.specs.Round.{round_of}
use Rattle.answers.specs.Limits.{beyond}

unfoldable pub turns : Float → Float → Float
unfolding mul div
turns x period = mul binary64 (round_of (div binary64 x period)) period

-- ---- how the code tells that the turns go with the order of the grid's columns

-- the period is a number above 0 and mid is a number: the turns go with the order of the columns
unfoldable pub keeps_order : Float → Float → Bool
unfolding lt beyond
keeps_order period mid = lt plus_zero period && (not (beyond greatest_finite period) && not (beyond greatest_finite mid))
