-- Document 01, "Chart", rule 3: "Box: least and greatest u and v over all rings; scale = greatest − least. Torus band:
-- kind 4 with a ring whose first and last u differ by over PI. Periodic: kinds 1, 2, or band. Check 11; then periodic
-- caps the u scale at TAU; check 12", and rule 5's "Period P = TAU / u scale".
-- A Frame is the code's struct (src/framing.rt): the box's least u and v; the scales, that of u capped; the period P;
-- periodic, whether the chart is; and band, whether it is a torus band.
use Rattle.std.specs.Prelude.{Bool, cond, ◌&&◌, ◌||◌, ℕ, eqb, Float}
use mathlib.Core.List.{List, map, flatten}
use Rattle.std.specs.Float.{binary64}
use Rattle.std.specs.Float.Ieee.{sub, div, le}
use Rattle.leaves.specs.Bounds.{smaller_of}
use Rattle.leaves.specs.Constants.{pi, tau, scale_limit}
use Rattle.sheet.specs.Content.{Point, point}
use Rattle.answers.specs.Lists.{any_of}
use Rattle.points.specs.Bounds.{least, greatest, axis_of, goes_around}
use Rattle.frame.specs.declared.framing.Frame.{Frame}

unfoldable pub band_of : ℕ → List (List Point) → Bool
unfolding goes_around
band_of kind rings = eqb kind 4 && any_of goes_around rings

unfoldable pub periodic_of : ℕ → Bool → Bool
periodic_of kind band = eqb kind 1 || eqb kind 2 || band

-- greatest − least of all points' u, or v
unfoldable pub spread : ℕ → List Point → Float
unfolding sub least greatest axis_of
spread axis ps = sub binary64 (greatest (map (axis_of axis) ps)) (least (map (axis_of axis) ps))

unfoldable pub capped : Bool → Float → Float
capped periodic scale = cond periodic (smaller_of scale tau) scale

-- of a box with these least u and v and these scales, before the cap
unfoldable pub boxed : Bool → Bool → Float → Float → Float → Float → Frame
unfolding capped div
boxed periodic band least_u least_v scale_u scale_v = record {
  least = point least_u least_v;
  scale = point (capped periodic scale_u) scale_v;
  period = div binary64 tau (capped periodic scale_u);
  periodic = periodic;
  band = band;
}

-- of the points of all rings together
unfoldable pub framed : Bool → Bool → List Point → Frame
unfolding boxed least axis_of spread
framed periodic band ps = boxed periodic band (least (map (axis_of 0) ps)) (least (map (axis_of 1) ps)) (spread 0 ps) (spread 1 ps)

unfoldable pub frame_of : ℕ → List (List Point) → Frame
unfolding framed periodic_of band_of flatten
frame_of kind rings = framed (periodic_of kind (band_of kind rings)) (band_of kind rings) (flatten rings)

-- ---- 11: "torus band with v scale ≥ PI"
unfoldable pub band_wide : Frame → Bool
unfolding le
band_wide f = f.band && le pi f.scale.v

-- ---- 12: "u or v scale ≤ 1e-12"
unfoldable pub narrow : Frame → Bool
unfolding le
narrow f = le f.scale.u scale_limit || le f.scale.v scale_limit
