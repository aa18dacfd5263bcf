-- Document 01, "Plates to hold against it", of plane pick: plate A with its last point moved, as the chart's Plates has
-- it of the chart. No contract cites it: the theorem in proofs/Plates.antt does.
use Rattle.std.specs.Prelude.{◌≡◌}
use Rattle.chart.specs.Demand.{Passes}
use Rattle.chart.specs.Plates.{plate_a, raised}
use Rattle.sheet.specs.Writing.{sheet_bytes}
use Rattle.picker.specs.PlanePick.{plane_checks, plane_pick_of}

pub record PlanePlates : Type 0 where
  -- at (0, 2^−13): 13
  pub plate_A_open : (plane_pick_of (sheet_bytes (plate_a (raised 13)))).status ≡ 13
  -- at (0, 2^−14): passes the joins, and every check above them
  pub plate_A_passes : Passes 13 (plane_checks (sheet_bytes (plate_a (raised 14))))
