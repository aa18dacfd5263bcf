-- Document 01, the table of refusals, 16 and 17: the sphere and the sides that "Triangle (`spherical_triangle`)" is
-- given, and what `spherical_triangle` of uv.rs asks of them.
use Rattle.std.specs.Prelude.{Bool, not, ◌||◌, List, [], ℕ, ltb, Float, get_or}
use Rattle.std.specs.Float.{nan, binary64}
use Rattle.std.specs.Float.Ieee.{sub, mul, lt}
use Rattle.leaves.specs.Bounds.{exceeds_of}
use Rattle.leaves.specs.Constants.{plus_zero, pi, micro, end_limit}
use Rattle.space.specs.Places.{place_at}
use Rattle.space.specs.Vectors.{minus_of, distance_of, length_of, unit_of, unit_fails}
use Rattle.space.specs.declared.vectors.Place.{Place}
use Rattle.answers.specs.Limits.{beyond, place_beyond as place_beyond_of, argument_limit}
use Rattle.answers.specs.Lists.{any_of}
use Rattle.sides.specs.declared.side.Sphere.{Sphere}
use Rattle.sides.specs.declared.side.Side.{Side}

-- ---- a side's arrays: two ends by three coordinates, as the edge has them and as the host evaluated them; a range's
-- two ends

-- an end of a side
abbrev pub end_of : List (List Float) → ℕ → Place
end_of ends k = place_at (get_or ends k []) 0

-- ---- 16: "a number not finite or above 2^20 in magnitude, r not above 0, sense above 2"

unfoldable pub place_beyond : Place → Bool
place_beyond p = place_beyond_of argument_limit p

-- of a sphere or a circle
unfoldable pub sphere_beyond : Sphere → Bool
unfolding place_beyond
sphere_beyond s = place_beyond s.centre || beyond argument_limit s.radius

unfoldable pub sphere_wrong : Sphere → ℕ → Bool
unfolding sphere_beyond lt
sphere_wrong sphere sense = sphere_beyond sphere || not (lt plus_zero sphere.radius) || ltb 2 sense

unfoldable pub side_beyond : Side → Bool
unfolding sphere_beyond
side_beyond side =
    any_of (any_of (beyond argument_limit)) side.ends
    || sphere_beyond side.circle
    || any_of (beyond argument_limit) side.range
    || any_of (any_of (beyond argument_limit)) side.evaluated

unfoldable pub sides_beyond : List Side → Bool
unfolding side_beyond
sides_beyond sides = any_of side_beyond sides

-- ---- 17: "circle centre or radius off by over r × 1e-6; sweep over PI; an evaluated end off its end, or an end off
-- the sphere, by over r × 1e-5; `unit` fails"

unfoldable pub circle_wrong : Sphere → Sphere → Bool
unfolding lt sub mul
circle_wrong sphere circle = lt (mul binary64 sphere.radius micro) (distance_of circle.centre sphere.centre) || exceeds_of (sub binary64 circle.radius sphere.radius) (mul binary64 sphere.radius micro)

unfoldable pub sweep_wrong : Float → Float → Bool
unfolding sub
sweep_wrong from to = exceeds_of (sub binary64 to from) pi

-- an end, as the edge has it, and the host's evaluated one
unfoldable pub end_wrong : Sphere → Place → Place → Bool
unfolding lt sub mul
end_wrong sphere end evaluated =
    lt (mul binary64 sphere.radius end_limit) (distance_of evaluated end)
    || exceeds_of (sub binary64 (length_of (minus_of end sphere.centre)) sphere.radius) (mul binary64 sphere.radius end_limit)
    || unit_fails (unit_of (minus_of end sphere.centre))

-- a side
unfoldable pub side_wrong : Sphere → Side → Bool
unfolding circle_wrong sweep_wrong end_wrong
side_wrong sphere side =
    circle_wrong sphere side.circle
    || sweep_wrong (get_or side.range 0 nan) (get_or side.range 1 nan)
    || end_wrong sphere (end_of side.ends 0) (end_of side.evaluated 0)
    || end_wrong sphere (end_of side.ends 1) (end_of side.evaluated 1)

-- any of the three
unfoldable pub sides_wrong : Sphere → List Side → Bool
unfolding side_wrong
sides_wrong sphere sides = any_of (side_wrong sphere) sides
