-- Points as the flat list of their numbers: how many they are, and the point that is written.
use mathlib.Core.Path.{◌≡◌, refl}
use mathlib.Core.List.{List, [], ◌∷◌, map}
use Prim.Native.Nat.{ℕ, ◌*◌}
use native.Mathlib.Omega.{arith}
use lib.Ieee.{binary64, sub}
use lib.ListN.{length, length-map}
use Rattle.sheet.specs.Content.{Point, point, flat}
use Rattle.points.specs.Written.{phase_angle, written_point}

pub length_flat : (ps : List Point) → length (flat ps) ≡ 2 * length ps
unfolding flat
length_flat [] = refl
length_flat (p ∷ ps) = omega (arith, length_flat ps)

-- how many numbers the points of a list are, each changed
pub changed_room : (change : Point → Point) (ps : List Point) → length (flat (map change ps)) ≡ 2 * length ps
changed_room change ps = simp (length_flat, length-map)

pub written_is : (phase : ℕ) (p : Point) → written_point phase p ≡ point p.u (sub binary64 p.v (phase_angle phase))
unfolding written_point
written_is phase p = refl
