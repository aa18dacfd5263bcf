-- Document 01, "Plates to hold against it": the marked 13, and what passes the joins beside it, of plane pick. The rows
-- down to 13 hold by computing the definitions.
use mathlib.Core.Path.{◌≡◌, refl, sym, ◌∙◌}
use Prim.Native.Nat.{ℕ}
use native.Mathlib.Omega.{arith}
use lib.Ieee.{of_bits}
use Rattle.leaves.specs.Bounds.{smaller_of, larger_of}
use Rattle.leaves.specs.Constants.{deviation_limit, scale_limit, join_limit}
use Rattle.leaves.specs.Hypot.{hypot_of}
use Rattle.sheet.specs.Checks.{layout_checks, content_checks}
use Rattle.sheet.specs.Layout.{sheet_of, big}
use Rattle.answers.specs.Outcome.{first}
use Rattle.chart.specs.Chart.{frame_checks}
use Rattle.chart.specs.Demand.{down_to}
use Rattle.chart.specs.Plates.{plate_a, raised}
use Rattle.sheet.specs.Writing.{sheet_bytes}
use Rattle.picker.specs.PlanePick.{plane_checks}
use Rattle.picker.specs.Plates.{PlanePlates}
use Rattle.picker.proofs.GridRule.{plane_refused_above}

thirteen : first (down_to 13 (plane_checks (sheet_bytes (plate_a (raised 13))))) ≡ 13
unfolding first down_to plane_checks layout_checks content_checks frame_checks sheet_of big sheet_bytes plate_a of_bits smaller_of larger_of hypot_of deviation_limit scale_limit join_limit
thirteen = refl

pub plane_plates : PlanePlates
unfolding first down_to plane_checks layout_checks content_checks frame_checks sheet_of big sheet_bytes plate_a of_bits smaller_of larger_of hypot_of deviation_limit scale_limit join_limit
plane_plates = record {
  plate_A_open = plane_refused_above (sheet_bytes (plate_a (raised 13))) (λ z. never (sym thirteen ∙ z)) ∙ thirteen;
  plate_A_passes = refl;
}
  where
    never : ◌≡◌ {A = ℕ} 13 0 → ⊥
    never e = omega arith
