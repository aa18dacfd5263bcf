-- Document 01, "plane pick (sheet; phase 0)": the plane stand-in, and the images of a chart's rings on it.
use Rattle.std.specs.Prelude.{List, map, Float}
use Rattle.std.specs.Float.{binary64}
use Rattle.std.specs.Float.Ieee.{add, mul}
use Rattle.space.specs.Vectors.{place, cross_of}
use Rattle.space.specs.Places.{place_at}
use Rattle.space.specs.declared.vectors.Place.{Place}
use Rattle.sheet.specs.Content.{Point}
use Rattle.points.specs.Written.{written_point}

-- ---- "Plane stand-in: (origin + u × u axis) + v × (normal cross u axis)"

-- one coordinate
unfoldable pub reached : Float → Float → Float → Float → Float → Float
unfolding add mul
reached origin u u_axis v v_axis = add binary64 (add binary64 origin (mul binary64 u u_axis)) (mul binary64 v v_axis)

unfoldable pub on_axes : Place → Place → Place → Point → Place
unfolding reached
on_axes origin u_axis v_axis p =
    place
    (reached origin.x p.u u_axis.x p.v v_axis.x)
    (reached origin.y p.u u_axis.y p.v v_axis.y)
    (reached origin.z p.u u_axis.z p.v v_axis.z)

-- of a plane's nine numbers: "origin, u axis and normal, three f64 each"
unfoldable pub on_plane : List Float → Point → Place
unfolding on_axes
on_plane plane p = on_axes (place_at plane 0) (place_at plane 3) (cross_of (place_at plane 6) (place_at plane 3)) p

-- ---- the images of the points that a chart writes of these rings, at phase 0

unfoldable pub plane_images_of : List Float → List (List Point) → List (List Place)
unfolding on_plane
plane_images_of plane rings = map (map (λ (q : Point). on_plane plane (written_point 0 q))) rings
