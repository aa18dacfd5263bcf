-- Rule 8's clearance, whatever the rings: a value of the format, no NaN, and the same for every order of the rings,
-- since no distance is -0.
use mathlib.Core.Path.{◌≡◌}
use mathlib.Core.Bool.{false, not}
use mathlib.Core.List.{List, Permᴰ}
use lib.Dec.{T}
use lib.Ieee.{inf, binary64, fits, is_nan}
use lib.Ieee.Fits.{inf-fits}
use Rattle.sheet.specs.Content.{Point}
use Rattle.clearance.specs.Clearance.{distance}
use Rattle.clearance.proofs.LeastDistance.{rings_held, rings_number, rings_perm}
use Rattle.clearance.proofs.ByKeys.{distance_clear}
use Rattle.chart.specs.Chart.{clearance, period_of}
use Rattle.frame.specs.declared.framing.Frame.{Frame}

inf_number : T (not (is_nan (inf false)))
unfolding is_nan
inf_number = tt

module _ (f : Frame) (rings : List (List Point)) (p : Point) where
  pub clearance_held : T (fits binary64 (clearance f rings p))
  unfolding clearance
  clearance_held = rings_held (distance (period_of f) p) (distance_clear (period_of f) p) rings (inf false) (inf-fits binary64 false)

  pub clearance_number : T (not (is_nan (clearance f rings p)))
  unfolding clearance
  clearance_number = rings_number (distance (period_of f) p) (distance_clear (period_of f) p) rings (inf false) inf_number

pub clearance_perm : (f : Frame) (p : Point) {rings rings' : List (List Point)} → Permᴰ rings rings' → clearance f rings p ≡ clearance f rings' p
unfolding clearance
clearance_perm f p d = rings_perm (distance (period_of f) p) (distance_clear (period_of f) p) d (inf false) (inf-fits binary64 false)
