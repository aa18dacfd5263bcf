-- What the private functions promise each other. A reader of the definitions that the calls cite needs nothing of it.
use Rattle.std.specs.Prelude.{Bool, ◌||◌, T, Float}
use mathlib.Core.List.{List, foldl}
use Rattle.std.specs.Float.Ieee.{le}
use Rattle.leaves.specs.Hypot.{key_of, hypot3_of}
use Rattle.space.specs.Places.{place_at}
use Rattle.space.specs.Vectors.{cross_of}
use Rattle.space.specs.declared.vectors.Place.{Place}
use Rattle.sheet.specs.Content.{Point}
use Rattle.points.specs.Segments.{Between, segments}
use Rattle.points.specs.Written.{written_point}
use Rattle.physical.specs.Plane.{on_axes}
use Rattle.physical.specs.Space.{distance}
use Rattle.physical.specs.declared.plane_points.Axes.{Axes}

-- ---- the physical clearance against a limit

-- whether a segment is not farther from p than the limit
unfoldable pub is_near : Float → Place → Between Place → Bool
unfolding le distance
is_near limit p s = le (distance p s) limit

-- whether one of a ring's segments is not, or `so far` one was not
unfoldable pub any_near : Float → Place → Bool → List Place → Bool
unfolding is_near
any_near limit p so_far ring = foldl (λ (b : Bool) (s : Between Place). b || is_near limit p s) so_far (segments ring)

-- where the key of two coordinates reaches k, no third makes a distance up to the limit
pub record Far (limit k : Float) : Type 0 where
  pub beyond : (a b c : Float) → T (le k (key_of a b)) → T (le (hypot3_of a b c) limit) → ⊥

-- ---- a plane, read once

-- of its nine numbers
unfoldable pub axes_of : List Float → Axes
axes_of plane = record {
  origin = place_at plane 0;
  u_axis = place_at plane 3;
  v_axis = cross_of (place_at plane 6) (place_at plane 3);
}

unfoldable pub on_axes_of : Axes → Point → Place
unfolding on_axes
on_axes_of axes p = on_axes axes.origin axes.u_axis axes.v_axis p

-- the image of a ring's point: that of the point that is written for it at phase 0
unfoldable pub image_of : Axes → Point → Place
unfolding on_axes_of
image_of axes p = on_axes_of axes (written_point 0 p)
