-- The helpers of sketch.rs on three coordinates, in its order of operations.
use Rattle.std.specs.Prelude.{Bool, false, cond, ◌&&◌, Float, Option, Some, None, is_none, unwrap_or}
use Rattle.std.specs.Float.{inf, binary64}
use Rattle.std.specs.Float.Ieee.{add, sub, mul, div, lt}
use Rattle.leaves.specs.Constants.{plus_zero, parallel}
use Rattle.leaves.specs.Hypot.{hypot3_of}
use Rattle.leaves.specs.Root.{root_of}
use Rattle.space.specs.declared.vectors.Place.{Place}

abbrev pub place : Float → Float → Float → Place
place x y z = record { x = x; y = y; z = z }

unfoldable pub minus_of : Place → Place → Place
unfolding sub
minus_of a b = place (sub binary64 a.x b.x) (sub binary64 a.y b.y) (sub binary64 a.z b.z)

unfoldable pub dot_of : Place → Place → Float
unfolding add mul
dot_of a b = add binary64 (add binary64 (mul binary64 a.x b.x) (mul binary64 a.y b.y)) (mul binary64 a.z b.z)

unfoldable pub cross_of : Place → Place → Place
unfolding sub mul
cross_of a b =
    place
    (sub binary64 (mul binary64 a.y b.z) (mul binary64 a.z b.y))
    (sub binary64 (mul binary64 a.z b.x) (mul binary64 a.x b.z))
    (sub binary64 (mul binary64 a.x b.y) (mul binary64 a.y b.x))

-- document 01's three-term hypotenuse of the difference
unfoldable pub distance_of : Place → Place → Float
unfolding sub
distance_of a b = hypot3_of (sub binary64 a.x b.x) (sub binary64 a.y b.y) (sub binary64 a.z b.z)

-- ---- `unit`: a root, not a hypotenuse

unfoldable pub length_of : Place → Float
unfolding dot_of
length_of v = root_of (dot_of v v)

-- "length > PARALLEL && length.is_finite()": a length above PARALLEL is finite where it is below infinity
unfoldable pub unit_serves : Float → Bool
unfolding lt
unit_serves length = lt parallel length && lt length (inf false)

-- each coordinate over the length
unfoldable pub over : Place → Float → Place
unfolding div
over v length = place (div binary64 v.x length) (div binary64 v.y length) (div binary64 v.z length)

unfoldable pub unit_of : Place → Option Place
unfolding unit_serves over length_of
unit_of v = cond (unit_serves (length_of v)) (Some (over v (length_of v))) None

abbrev pub unit_fails : Option Place → Bool
unit_fails v = is_none v

-- the vector; zeros where `unit` fails
abbrev pub along_of : Option Place → Place
along_of v = unwrap_or v (place plus_zero plus_zero plus_zero)
