-- Document 01, "Point": "Physical clearance is rule 8 in space, with three-term hypot, over all rings".
use Rattle.std.specs.Prelude.{false, cond, Float}
use mathlib.Core.List.{List, foldl}
use Rattle.std.specs.Float.{inf, binary64}
use Rattle.std.specs.Float.Ieee.{sub, mul, div, lt}
use Rattle.leaves.specs.Bounds.{clamp_of}
use Rattle.leaves.specs.Constants.{plus_zero, one}
use Rattle.leaves.specs.Hypot.{hypot3_of}
use Rattle.space.specs.Vectors.{place, minus_of, dot_of}
use Rattle.space.specs.declared.vectors.Place.{Place}
use Rattle.clearance.specs.Clearance.{least_of}
use Rattle.points.specs.Segments.{Between}

-- ---- "d = b − a; t = ((p − a)·d / d·d) clamped to 0..1, 0 if d·d is 0; hypot of p − a − t×d"

unfoldable pub delta : Between Place → Place
delta s = minus_of s.b s.a

-- where along the segment the nearest point lies; the Rust asks d·d > 0, and clamps the 0 too
unfoldable pub along : Place → Between Place → Float
unfolding lt div delta
along p s = clamp_of (cond (lt plus_zero (dot_of (delta s) (delta s))) (div binary64 (dot_of (minus_of p s.a) (delta s)) (dot_of (delta s) (delta s))) plus_zero) plus_zero one

-- one coordinate of p − a − t×d
unfoldable pub left : Float → Float → Float → Float
unfolding sub mul
left from t d = sub binary64 from (mul binary64 t d)

unfoldable pub residual : Place → Between Place → Place
unfolding left along delta
residual p s =
    place
    (left (minus_of p s.a).x (along p s) (delta s).x)
    (left (minus_of p s.a).y (along p s) (delta s).y)
    (left (minus_of p s.a).z (along p s) (delta s).z)

unfoldable pub distance : Place → Between Place → Float
unfolding residual
distance p s = hypot3_of (residual p s).x (residual p s).y (residual p s).z

-- ---- "least distance to a segment, from infinity", over all rings
unfoldable pub physical_clearance : Place → List (List Place) → Float
unfolding distance
physical_clearance p rings = foldl (least_of (distance p)) (inf false) rings
