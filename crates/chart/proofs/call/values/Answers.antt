-- `chart::call::values` has the numbers of the chosen grid point, back in the chart.
use Rattle.chart.specs.Chart.{answered}
use Rattle.chart.proofs.call.values.Goals as goal

pub returns : goal.returns
unfolding answered
returns c = rw (c.point-p.ensures.0, c.point-p.ensures.1)
