-- Document 01, "Vertex fallback (`point_on`, planes; u axis, normal, corners): 16: a number not finite or above 2^20 in
-- magnitude; 20: corner list not in threes, fewer than 3 or over 128 corners; 21: no triple serves", and `point_on` of
-- faces.rs.
use Rattle.std.specs.Prelude.{Bool, not, cond, ◌&&◌, ◌||◌, List, [], ◌∷◌, map, ℕ, ◌/◌, ◌%◌, eqb, ltb, length, Float}
use Rattle.std.specs.Float.{binary64}
use Rattle.std.specs.Float.Ieee.{of_bits, add, div, lt}
use Rattle.leaves.specs.Constants.{degenerate_limit}
use Rattle.space.specs.Places.{triples, place_at}
use Rattle.space.specs.Vectors.{place, minus_of, dot_of, cross_of}
use Rattle.space.specs.declared.vectors.Place.{Place}
use Rattle.answers.specs.Outcome.{check, first, Numbers, refused, settled}
use Rattle.answers.specs.Limits.{beyond, argument_limit, missing}
use Rattle.sheet.specs.Content.{Point, point}
use Rattle.answers.specs.Lists.{any_of}
use Rattle.points.specs.Bounds.{last_of}
use Rattle.inside.specs.Inside.{inside_of}
use Rattle.answers.specs.Answers.{valued}
use Rattle.vertex_fallback.specs.declared.corners.Corner.{Corner}

-- ---- 16 and 20

unfoldable pub vertices_wrong : List Float → List Float → List Float → Bool
vertices_wrong u_axis normal corners = missing 3 argument_limit u_axis || missing 3 argument_limit normal || any_of (beyond argument_limit) corners

abbrev pub most_corners : ℕ
most_corners = 128

unfoldable pub corners_wrong : List Float → Bool
corners_wrong corners = not (eqb (length corners % 3) 0) || ltb (length corners / 3) 3 || ltb most_corners (length corners / 3)

-- ---- the corners (src/corners.rt), each with the one before it and the one after it, the last before the first

abbrev pub corner : Place → Place → Place → Corner
corner before here after = record { before = before; here = here; after = after }

unfoldable pub corners_from : Place → Place → Place → List Place → List Corner
corners_from start before here [] = corner before here start ∷ []
corners_from start before here (after ∷ rest) = corner before here after ∷ corners_from start here after rest

unfoldable pub corners_of : List Place → List Corner
unfolding corners_from
corners_of [] = []
corners_of (p ∷ ps) = corners_from p (last_of p ps) p ps

-- ---- which of them serves

-- 3 as a number
abbrev pub three : Float
three = of_bits binary64 0x4008000000000000

unfoldable pub third : Float → Float → Float → Float
unfolding add div
third a b c = div binary64 (add binary64 (add binary64 a b) c) three

unfoldable pub centre_of : Corner → Place
unfolding third
centre_of c =
    place
    (third c.before.x c.here.x c.after.x)
    (third c.before.y c.here.y c.after.y)
    (third c.before.z c.here.z c.after.z)

-- the cross product of the sides from the first of the three to the two others
unfoldable pub normal_of : Corner → Place
normal_of c = cross_of (minus_of c.here c.before) (minus_of c.after c.before)

unfoldable pub degenerate : Corner → Bool
unfolding lt normal_of
degenerate c = lt (dot_of (normal_of c) (normal_of c)) degenerate_limit

-- a place on the axes u and v
unfoldable pub flattened : Place → Place → Place → Point
flattened u v p = point (dot_of p u) (dot_of p v)

unfoldable pub serves_of : Place → Place → List Point → Corner → Bool
unfolding degenerate flattened centre_of
serves_of u v ring c = not (degenerate c) && inside_of ring (flattened u v (centre_of c))

-- the centre of the first that serves; 21: none does
unfoldable pub first_serving : (Corner → Bool) → List Corner → Numbers
unfolding centre_of
first_serving serves [] = refused 21
first_serving serves (c ∷ cs) = cond (serves c) (valued (centre_of c).x (centre_of c).y (centre_of c).z) (first_serving serves cs)

-- ---- the call: v is the normal crossed with u

unfoldable pub point_among : Place → Place → List Place → Numbers
unfolding first_serving serves_of flattened corners_of
point_among u v corners = first_serving (serves_of u v (map (flattened u v) corners)) (corners_of corners)

unfoldable pub point_on_of : List Float → List Float → List Float → Numbers
unfolding vertices_wrong corners_wrong point_among
point_on_of u_axis normal corners =
    settled
    (first (check 16 (vertices_wrong u_axis normal corners) ∷ check 20 (corners_wrong corners) ∷ []))
    (point_among (place_at u_axis 0) (cross_of (place_at normal 0) (place_at u_axis 0)) (triples corners))
