-- What the private functions of the chart promise each other. A reader of the chart's definition needs nothing of it.
use Rattle.std.specs.Prelude.{false, List, ◌≡◌, ℕ, Float, length}
use Rattle.answers.specs.Outcome.{first}
use Rattle.sheet.specs.Layout.{sheet_of}
use Rattle.frame.specs.Seam.{phase_checks}
use Rattle.chart.specs.Chart.{room_wrong}

-- a sheet, a phase and an output list that pass the checks down to 9
pub record Passed (s : List ℕ) (phase : ℕ) (out : List Float) : Type 0 where
  pub passes : first (phase_checks s phase) ≡ 0
  pub room_right : room_wrong (sheet_of s) (length out) ≡ false
