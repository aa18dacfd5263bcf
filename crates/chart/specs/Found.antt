-- The grid point of a sheet, as the chart and the picks come by it, in lists that the caller lends: the rows 11 to 14
-- behind 9 of these lists (the seam's), and the frame with the chosen grid point.
use Rattle.std.specs.Prelude.{Bool, not, List, ◌∷◌, ℕ, Result}
use Rattle.answers.specs.Outcome.{Check, check, first, settle}
use Rattle.sheet.specs.Content.{Sheet}
use Rattle.frame.specs.Framing.{frame}
use Rattle.frame.specs.declared.framing.Frame.{Frame}
use Rattle.search.specs.declared.candidate.Candidate.{Candidate}
use Rattle.chart.specs.Chart.{chosen, frame_checks}
use Rattle.chart.specs.declared.grid_point.Found.{Found}

unfoldable pub find_checks : Bool → Sheet → ℕ → List Check
unfolding frame_checks
find_checks fits s phase = check 9 (not fits) ∷ frame_checks s phase

abbrev pub found : Frame → Candidate → Found
found f c = record { frame = f; best = c }

-- the frame and the grid point where no check fails, else the first that does
unfoldable pub found_of : Bool → Sheet → ℕ → Result Found ℕ
unfolding settle find_checks
found_of fits s phase = settle (first (find_checks fits s phase)) (found (frame s phase) (chosen s phase))
