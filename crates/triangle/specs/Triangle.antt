-- Document 01, "Triangle (`spherical_triangle`), answering three coordinates: centre, radius r, sense; three sides,
-- each of two ends of three coordinates, with a reversed flag, circle centre and radius, two range ends, and the host's
-- evaluated ends", and `spherical_triangle` of uv.rs.
use Rattle.std.specs.Prelude.{Bool, false, cond, ◌||◌, List, [], ◌∷◌, map, ℕ, eqb, Float, Option}
use mathlib.Core.List.{foldl}
use Rattle.std.specs.Float.{binary64}
use Rattle.std.specs.Float.Ieee.{neg, add, mul, lt, le}
use Rattle.leaves.specs.Constants.{plus_zero, micro, end_limit, one}
use Rattle.space.specs.Vectors.{place, minus_of, dot_of, cross_of, distance_of, unit_of, unit_fails, along_of}
use Rattle.space.specs.declared.vectors.Place.{Place}
use Rattle.answers.specs.Lists.{any_of}
use Rattle.answers.specs.Outcome.{check, first, Numbers, settled}
use Rattle.answers.specs.Answers.{place_numbers}
use Rattle.sides.specs.Sides.{end_of, sphere_wrong, sides_beyond, sides_wrong}
use Rattle.sides.specs.declared.side.Sphere.{Sphere}
use Rattle.sides.specs.declared.side.Side.{Side}
use Rattle.triangle.specs.declared.arcs.Arc.{Arc}

-- ---- the directions of a side's ends, after the reversal

unfoldable pub towards : Place → Place → Place
towards centre p = along_of (unit_of (minus_of p centre))

abbrev pub arc : Place → Place → Arc
arc start end = record { start = start; end = end }

unfoldable pub arc_of : Place → Side → Arc
unfolding towards
arc_of centre side =
    cond side.reversed
    (arc (towards centre (end_of side.ends 1)) (towards centre (end_of side.ends 0)))
    (arc (towards centre (end_of side.ends 0)) (towards centre (end_of side.ends 1)))

-- ---- 18: "a side's end direction over 1e-5 from the next's start"

unfoldable pub is_gap : Place → Place → Bool
unfolding lt
is_gap end start = lt end_limit (distance_of end start)

-- of the three
unfoldable pub gap_among : List Arc → Bool
unfolding is_gap
gap_among (a ∷ b ∷ c ∷ []) = is_gap a.end b.start || is_gap b.end c.start || is_gap c.end a.start
gap_among arcs = false

-- ---- 19: "`unit` of the sum fails, sense 0, or a triple product ≤ 1e-6"; the Rust's triple product has the sense's
-- sign

unfoldable pub plus_of : Place → Place → Place
unfolding add
plus_of a b = place (add binary64 a.x b.x) (add binary64 a.y b.y) (add binary64 a.z b.z)

-- of the start directions, from +0
unfoldable pub start_sum : List Arc → Place
unfolding plus_of
start_sum arcs = foldl (λ (sum : Place) (a : Arc). plus_of sum a.start) (place plus_zero plus_zero plus_zero) arcs

-- the unit of the sum
unfoldable pub inner_of : List Arc → Option Place
unfolding start_sum
inner_of arcs = unit_of (start_sum arcs)

-- +1 forward, −1 reversed
unfoldable pub sign_of : ℕ → Float
unfolding neg
sign_of sense = cond (eqb sense 1) one (neg one)

unfoldable pub outside : Float → Place → Arc → Bool
unfolding le mul
outside sign p a = le (mul binary64 (dot_of (cross_of a.start a.end) p) sign) micro

unfoldable pub no_interior : ℕ → Place → List Arc → Bool
unfolding outside sign_of
no_interior sense p arcs = eqb sense 0 || any_of (outside (sign_of sense) p) arcs

-- ---- the answer: centre + r × p

unfoldable pub reach_of : Float → Float → Float → Float
unfolding add mul
reach_of centre radius p = add binary64 centre (mul binary64 radius p)

unfoldable pub reach : Sphere → Place → Place
unfolding reach_of
reach sphere p = place (reach_of sphere.centre.x sphere.radius p.x) (reach_of sphere.centre.y sphere.radius p.y) (reach_of sphere.centre.z sphere.radius p.z)

unfoldable pub on_sphere : Sphere → Place → Numbers
unfolding reach
on_sphere sphere p = place_numbers (reach sphere p)

-- of the three sides' directions
unfoldable pub triangle_among : Sphere → ℕ → List Arc → Numbers
unfolding gap_among inner_of no_interior on_sphere
triangle_among sphere sense arcs =
    settled
    (first (check 18 (gap_among arcs) ∷ check 19 (unit_fails (inner_of arcs) || no_interior sense (along_of (inner_of arcs)) arcs) ∷ []))
    (on_sphere sphere (along_of (inner_of arcs)))

unfoldable pub triangle_of : Sphere → ℕ → List Side → Numbers
unfolding triangle_among arc_of
triangle_of sphere sense sides =
    settled
    (first
    (check 16 (sphere_wrong sphere sense || sides_beyond sides)
    ∷ check 17 (sides_wrong sphere sides)
    ∷ []))
    (triangle_among sphere sense (map (arc_of sphere.centre) sides))
