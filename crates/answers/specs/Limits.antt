-- Document 01, "not finite or above" a limit "in magnitude", of refusals 7, 10 and 16, and refusal 16's own limit. A
-- list of another length than the call's has a number missing, or one too many: 16 too
-- (docs/DECISIONS.md).
use Rattle.std.specs.Prelude.{Bool, not, ◌&&◌, ◌||◌, List, ℕ, eqb, length, Float}
use Rattle.std.specs.Float.{binary64}
use Rattle.std.specs.Float.Ieee.{of_bits, neg, le}
use Rattle.leaves.specs.Constants.{greatest_finite}
use Rattle.space.specs.declared.vectors.Place.{Place}
use Rattle.answers.specs.Lists.{any_of}

-- of magnitude above the limit, infinite, or a NaN
unfoldable pub beyond : Float → Float → Bool
unfolding le neg
beyond limit x = not (le (neg limit) x && le x limit)

-- of a place: a coordinate is beyond the limit
unfoldable pub place_beyond : Float → Place → Bool
place_beyond limit p = beyond limit p.x || beyond limit p.y || beyond limit p.z

-- of magnitude above the greatest finite one, infinite, or a NaN
abbrev pub not_finite : Float → Bool
not_finite x = beyond greatest_finite x

-- 16: "or above 2^20 in magnitude", in the triangle and the fallbacks
abbrev pub argument_limit : Float
argument_limit = of_bits binary64 0x4130000000000000

-- whether xs is not n numbers, none of them beyond the limit
unfoldable pub missing : ℕ → Float → List Float → Bool
missing n limit xs = not (eqb (length xs) n) || any_of (beyond limit) xs
