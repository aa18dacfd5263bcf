-- Document 01, "plane pick (sheet; phase 0)": the table, read top to bottom, and the chosen grid point on the plane by
-- the stand-in.
use Rattle.std.specs.Prelude.{Bool, not, List, [], ◌∷◌, ◌++◌, ℕ, eqb}
use Rattle.space.specs.declared.vectors.Place.{Place}
use Rattle.sheet.specs.Content.{point, Sheet}
use Rattle.sheet.specs.Layout.{sheet_of}
use Rattle.answers.specs.Outcome.{Check, check, first, Numbers, settled}
use Rattle.sheet.specs.Checks.{layout_checks, content_checks}
use Rattle.frame.specs.Framing.{moved_rings, frame}
use Rattle.chart.specs.Chart.{chosen, answered, frame_checks}
use Rattle.physical.specs.Physical.{too_close}
use Rattle.physical.specs.Plane.{on_plane, plane_images_of}
use Rattle.picker.specs.Answered.{answered_at}

-- ---- the images of the chart's written points and of its answer, at phase 0

unfoldable pub plane_images : Sheet → List (List Place)
plane_images s = plane_images_of s.plane (moved_rings s 0)

unfoldable pub plane_point : Sheet → Place
plane_point s = on_plane s.plane (point (answered (frame s 0) 0 (chosen s 0)).x (answered (frame s 0) 0 (chosen s 0)).y)

-- ---- the table

-- 8: "plane pick off kind 0"
unfoldable pub no_plane : Sheet → Bool
no_plane s = not (eqb s.kind 0)

unfoldable pub plane_close : Sheet → Bool
unfolding plane_point plane_images
plane_close s = too_close s (plane_point s) (plane_images s)

unfoldable pub plane_checks : List ℕ → List Check
unfolding no_plane plane_close
plane_checks s =
    layout_checks s
    ++ content_checks (sheet_of s)
    ++ check 8 (no_plane (sheet_of s))
    ∷ frame_checks (sheet_of s) 0
    ++ check 15 (plane_close (sheet_of s))
    ∷ []

unfoldable pub plane_pick_of : List ℕ → Numbers
unfolding plane_checks answered_at plane_point
plane_pick_of s = settled (first (plane_checks s)) (answered_at (plane_point (sheet_of s)) (chosen (sheet_of s) 0))
