-- Every scale of a sheet that passes the checks down to 7 is finite, at any phase. Check 7 bounds the coordinates, and
-- check 6 the number of points. A moved point lies at most a stride further out than the one before it, so all of them
-- lie within a whole number whose double the format still holds. There is a point, so the least and the greatest are
-- coordinates and not infinities.
use mathlib.Core.Path.{◌≡◌}
use mathlib.Core.Bool.{Bool, true, false}
use mathlib.Core.List.{List, [], ◌∷◌, ◌++◌, map, flatten}
use Prim.Native.Nat.{ℕ, ◌+◌, ◌*◌, ◌^◌, ◌≤◌}
use native.Mathlib.Omega.{arith}
use lib.Dec.{T}
use lib.Ieee.{Float, binary64, prec, of_bits}
use lib.Ieee.Scale.{finite}
use lib.ListN.{length}
use Rattle.leaves.specs.Constants.{tau}
use Rattle.leaves.proofs.Choices.{smaller_keeps}
use Rattle.leaves.proofs.Folds.{All, sum_parts}
use Rattle.leaves.proofs.Magnitudes.{most_finite, sub_most}
use Rattle.leaves.proofs.Wraps.{tau_most}
use Rattle.answers.specs.Outcome.{first}
use Rattle.answers.proofs.Permutations.{all_flatten}
use Rattle.sheet.specs.Checks.{ring_wrong, layout_checks, content_checks}
use Rattle.sheet.specs.Content.{Point, Coedge, ring_points}
use Rattle.sheet.specs.Layout.{sheet_of}
use Rattle.sheet.proofs.Checked.{coordinate_most, MostPoint, ring_most, checked}
use Rattle.points.specs.Bounds.{least, greatest, axis_of}
use Rattle.points.specs.Unroll.{moved_ring}
use Rattle.points.proofs.Reach.{moved_ring_most, least_most, greatest_most}
use Rattle.frame.specs.Frame.{band_of, periodic_of, spread, capped, boxed, framed, frame_of}
use Rattle.frame.specs.Framing.{point_count, moved_rings, frame}
use Rattle.frame.specs.Seam.{most_points}
use Rattle.frame.proofs.SheetFrame.{moved_points, points_least, points_most}

-- ---- the scales of points of which none is larger than n

spread_finite : (n axis : ℕ) (ps : List Point) → n + n ≤ 2 ^ prec binary64 → 1 ≤ length ps → All (MostPoint n) ps → T (finite (spread axis ps))
unfolding spread
spread_finite n axis ps fit some h =
    most_finite (n + n) (spread axis ps)
    (sub_most binary64 (greatest (map (axis_of axis) ps)) (least (map (axis_of axis) ps)) n n fit (greatest_most n axis ps some h) (least_most n axis ps some h))

capped_finite : (periodic : Bool) (scale : Float) → T (finite scale) → T (finite (capped periodic scale))
unfolding capped
capped_finite true scale h = smaller_keeps (λ (x : Float). T (finite x)) scale tau h (most_finite 7 tau tau_most)
capped_finite false scale h = h

framed_finite : (kind n : ℕ) (rings : List (List Point)) → n + n ≤ 2 ^ prec binary64 → 1 ≤ length (flatten rings) → All (MostPoint n) (flatten rings)
    → T (finite (frame_of kind rings).scale.u) × T (finite (frame_of kind rings).scale.v)
unfolding frame_of framed boxed
framed_finite kind n rings fit some h =
    let ps = flatten rings in
    (capped_finite (periodic_of kind (band_of kind rings)) (spread 0 ps) (spread_finite n 0 ps fit some h), spread_finite n 1 ps fit some h)

-- ---- the points of a sheet

-- how much further out than the one before it a moved point can lie
abbrev stride : ℕ
stride = coordinate_most + coordinate_most + 8

-- how far out the last one can lie
abbrev reach : ℕ
reach = coordinate_most + most_points * stride

rings_most_lem : (kind phase : ℕ) (rings : List (List Coedge)) → All (λ (r : List Coedge). ring_wrong r ≡ false) rings → All (λ (r : List Coedge). length (ring_points r) ≤ most_points) rings
    → All (All (MostPoint reach)) (map (λ (r : List Coedge). moved_ring kind phase (ring_points r)) rings)
unfolding of_bits
rings_most_lem kind phase [] h k = tt
rings_most_lem kind phase (r ∷ rs) h k = (
  moved_ring_most coordinate_most stride (omega arith) reach (omega arith) (omega arith) (omega arith) kind phase (ring_points r) (omega (arith, k.0)) (ring_most r h.0),
  rings_most_lem kind phase rs h.1 k.1,
)

module _ (s : List ℕ) (phase : ℕ) (reads : first (layout_checks s ++ content_checks (sheet_of s)) ≡ 0) where
  moved_most : All (All (MostPoint reach)) (moved_rings (sheet_of s) phase)
  unfolding moved_rings point_count
  moved_most = rings_most_lem (sheet_of s).kind phase (sheet_of s).rings (checked s reads).rings_right (sum_parts (λ (r : List Coedge). length (ring_points r)) most_points (sheet_of s).rings (omega (arith, points_most s reads)))

  some_point : 1 ≤ length (flatten (moved_rings (sheet_of s) phase))
  some_point = omega (arith, moved_points s phase, points_least s reads)

pub scales_finite : (s : List ℕ) (phase : ℕ) → first (layout_checks s ++ content_checks (sheet_of s)) ≡ 0
    → T (finite (frame (sheet_of s) phase).scale.u) × T (finite (frame (sheet_of s) phase).scale.v)
unfolding frame of_bits
scales_finite s phase reads =
    let rings = moved_rings (sheet_of s) phase in
    framed_finite (sheet_of s).kind reach rings (omega arith) (some_point s phase reads) (all_flatten (MostPoint reach) rings (moved_most s phase reads))
