-- `chart::grid_point::Found::point` is the place in the chart that `answered` names, operation by operation.
use mathlib.Core.Path.{refl}
use Rattle.chart.specs.Chart.{answered}
use Rattle.chart.proofs.grid_point.Found.point.Goals as goal

pub returns : goal.returns
unfolding answered
returns c = (refl, rw c.phase_angle.ensures)
