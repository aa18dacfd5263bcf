-- Document 01, "The host calls over the C convention, on numbers and slices". What a call returns is `returned_of` of
-- the answers; the chart has a lent list beside it.
use Rattle.std.specs.Prelude.{cond, List, ℕ, eqb, length, Float}
use Rattle.answers.specs.Returned.{Returned, returned_of}
use Rattle.chart.specs.Chart.{Charted, chart_of}
use Rattle.picker.specs.ImagePick.{image_pick_of}
use Rattle.picker.specs.PlanePick.{plane_pick_of}

-- ---- the chart, which is lent a list to write

-- its result, and the list afterwards
pub record Seen : Type 0 where
  pub returns : Returned
  pub points : List Float

abbrev pub seen : Returned → List Float → Seen
seen returns points = record { returns = returns; points = points }

unfoldable pub seen_of : Charted → List Float → List Float → Seen
seen_of charted points result = seen (returned_of charted.numbers result) (cond (eqb (length result) 5) charted.points points)

unfoldable pub chart_seen : List ℕ → ℕ → List Float → List Float → Seen
unfolding seen_of
chart_seen sheet phase points result = seen_of (chart_of sheet phase points) points result

-- ---- the picks, which are lent nothing to write

unfoldable pub image_pick_returned : List ℕ → ℕ → List Float → List Float → Returned
image_pick_returned sheet phase images result = returned_of (image_pick_of sheet phase images) result

unfoldable pub plane_pick_returned : List ℕ → List Float → Returned
plane_pick_returned sheet result = returned_of (plane_pick_of sheet) result
