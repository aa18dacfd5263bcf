-- Document 01, "Chart", rule 8: the distance of a point to a segment, and the least of them over a ring.
-- SegmentLists and Nearest have the second form of it that the code works by, on one list of segments and by keys.
use Rattle.std.specs.Prelude.{cond, Option, Some, None, Float}
use mathlib.Core.List.{List, foldl}
use Rattle.std.specs.Float.{binary64}
use Rattle.std.specs.Float.Ieee.{add, sub, mul, div, lt}
use Rattle.leaves.specs.Bounds.{smaller_of, clamp_of}
use Rattle.leaves.specs.Constants.{plus_zero, one}
use Rattle.leaves.specs.Hypot.{hypot_of}
use Rattle.sheet.specs.Content.{Point, point}
use Rattle.points.specs.Segments.{gained, middle, Between, Segment, segment, segments}
use Rattle.points.specs.Turns.{turns}

-- ---- "Periodic: b moves as in 7, then both by round((p.u − (a.u + b.u)/2)/P) × P"; a chart that is not periodic has
-- no P

-- "b moves as in 7"
unfoldable pub laid : Option Float → Segment → Segment
unfolding gained
laid (Some period) s = segment s.a (point (gained period s) s.b.v)
laid None s = s

-- "then both", of a segment whose b has moved, for the points at u
unfoldable pub shifted_to : Float → Float → Segment → Segment
unfolding add sub turns
shifted_to period u s =
    segment (point (add binary64 s.a.u (turns (sub binary64 u (middle s.a.u s.b.u)) period)) s.a.v)
    (point (add binary64 s.b.u (turns (sub binary64 u (middle s.a.u s.b.u)) period)) s.b.v)

unfoldable pub copy : Option Float → Point → Segment → Segment
unfolding shifted_to laid
copy (Some period) p s = shifted_to period p.u (laid (Some period) s)
copy None p s = s

-- ---- "d = b − a; t = ((p − a)·d / d·d) clamped to 0..1, 0 if d·d is 0; hypot of p − a − t×d"

unfoldable pub delta : Segment → Point
unfolding sub
delta s = point (sub binary64 s.b.u s.a.u) (sub binary64 s.b.v s.a.v)

unfoldable pub dot_of : Point → Point → Float
unfolding add mul
dot_of x y = add binary64 (mul binary64 x.u y.u) (mul binary64 x.v y.v)

-- where along the segment the nearest point lies; the Rust asks d·d > 0
unfoldable pub along : Point → Segment → Float
unfolding lt dot_of delta sub div
along p s =
    cond (lt plus_zero (dot_of (delta s) (delta s)))
    (clamp_of (div binary64 (dot_of (point (sub binary64 p.u s.a.u) (sub binary64 p.v s.a.v)) (delta s)) (dot_of (delta s) (delta s))) plus_zero one)
    plus_zero

unfoldable pub residual : Point → Segment → Point
unfolding sub mul along delta
residual p s =
    point (sub binary64 (sub binary64 p.u s.a.u) (mul binary64 (along p s) (delta s).u)) (sub binary64 (sub binary64 p.v s.a.v) (mul binary64 (along p s) (delta s).v))

unfoldable pub distance : Option Float → Point → Segment → Float
unfolding residual copy
distance period p s = hypot_of (residual p (copy period p s)).u (residual p (copy period p s)).v

-- ---- "Clearance: least distance to a segment": the least of `so far` and the distances to the segments of one ring

unfoldable pub least_of : {A : Type 0} → (Between A → Float) → Float → List A → Float
unfolding segments
least_of {A} distance so_far ring = foldl (λ (d : Float) (s : Between A). smaller_of d (distance s)) so_far (segments ring)

unfoldable pub nearer : Option Float → Point → Float → List Point → Float
unfolding least_of distance
nearer period p so_far ring = least_of (distance period p) so_far ring
