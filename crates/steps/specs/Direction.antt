-- Document 01, "The direction test in `edge_points`, 16: a number not finite; it answers whether to reverse (the last
-- image is nearer the start) and whether to keep (then both ends lie nearer than 1e-4)". The twelve numbers: the first
-- image, the last image, the start, the end, three coordinates each.
use Rattle.std.specs.Prelude.{Bool, cond, ◌&&◌, List, [], ◌∷◌, Float}
use Rattle.std.specs.Float.Ieee.{lt}
use Rattle.leaves.specs.Constants.{plus_zero, greatest_finite, join_limit}
use Rattle.space.specs.Places.{place_at}
use Rattle.space.specs.Vectors.{distance_of}
use Rattle.space.specs.declared.vectors.Place.{Place}
use Rattle.answers.specs.Outcome.{check, first, Numbers, settled}
use Rattle.answers.specs.Answers.{valued, yes}
use Rattle.answers.specs.Limits.{missing}

-- "the last image is nearer the start": of the first image, the last one, and the start
unfoldable pub reverses_of : Place → Place → Place → Bool
unfolding lt
reverses_of front back start = lt (distance_of back start) (distance_of front start)

-- "then both ends lie nearer than 1e-4": of the first image and the last one, as they are after the reversal, the start
-- and the end
unfoldable pub keeps_of : Place → Place → Place → Place → Bool
unfolding lt
keeps_of front back start end = lt (distance_of front start) join_limit && lt (distance_of back end) join_limit

unfoldable pub directed : Place → Place → Place → Place → Numbers
unfolding reverses_of keeps_of
directed front back start end =
    valued
    (yes (reverses_of front back start))
    (yes (cond (reverses_of front back start) (keeps_of back front start end) (keeps_of front back start end)))
    plus_zero

unfoldable pub direction_of : List Float → Numbers
unfolding directed
direction_of points = settled (first (check 16 (missing 12 greatest_finite points) ∷ [])) (directed (place_at points 0) (place_at points 3) (place_at points 6) (place_at points 9))
