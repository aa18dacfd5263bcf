-- Document 01, "Chart": what a call writes of its moved points, "writes each moved point (u, v − phase) in order".
use Rattle.std.specs.Prelude.{cond, ℕ, eqb, Float}
use mathlib.Core.List.{List, map, flatten}
use Rattle.std.specs.Float.{binary64}
use Rattle.std.specs.Float.Ieee.{sub}
use Rattle.leaves.specs.Constants.{plus_zero, pi}
use Rattle.sheet.specs.Content.{Point, point, flat}

-- "phase (0 or PI)"
unfoldable pub phase_angle : ℕ → Float
phase_angle phase = cond (eqb phase 1) pi plus_zero

unfoldable pub written_point : ℕ → Point → Point
unfolding sub phase_angle
written_point phase p = point p.u (sub binary64 p.v (phase_angle phase))

unfoldable pub written : ℕ → List (List Point) → List Float
unfolding flat flatten written_point
written phase rings = flat (map (written_point phase) (flatten rings))
