-- Document 01, "Plates to hold against it": "The definitions satisfy the rows marked ●, stated jointly as a single
-- proved list". Each row holds by computing the definitions.
-- Plate A's are rows of the chart's table, on the sheet's bytes: the rows down to 13 are computed with room for just
-- the points, and more room changes none.
use mathlib.Core.Path.{◌≡◌, refl, sym, ap, ◌∙◌}
use mathlib.Core.Bool.{Bool, false, xor}
use mathlib.Core.List.{List, ◌∷◌, ◌++◌}
use Prim.Native.Nat.{ℕ, ◌≤◌}
use native.Mathlib.Omega.{arith}
use lib.ListN.{length}
use lib.Ieee.{of_bits}
use borrow.Author.Tests.{le-ltb}
use Rattle.leaves.specs.Bounds.{smaller_of, larger_of}
use Rattle.leaves.specs.Constants.{plus_zero, decimal, deviation_limit, scale_limit, join_limit}
use Rattle.leaves.specs.Hypot.{hypot_of}
use Rattle.leaves.specs.Round.{round_of}
use Rattle.leaves.specs.Wrap.{wrap_of}
use Rattle.leaves.proofs.Examples.{round_two_and_a_half, round_minus_two_and_a_half, root_two, root_least}
use Rattle.sheet.specs.Content.{Point, point}
use Rattle.sheet.specs.Layout.{sheet_of, big}
use Rattle.answers.specs.Outcome.{Check, check, first}
use Rattle.sheet.specs.Checks.{layout_checks, content_checks}
use Rattle.inside.specs.Inside.{inside_of}
use Rattle.coverage.specs.Coverage.{winding_of}
use Rattle.frame.specs.Framing.{joins_open, point_count, phase_wrong}
use Rattle.chart.specs.Chart.{room_wrong, frame_checks, chart_checks}
use Rattle.chart.specs.Demand.{down_to}
use Rattle.chart.specs.Plates.{Plates, square, halfway, plate_a, raised}
use Rattle.sheet.specs.Writing.{sheet_bytes}
use Rattle.chart.proofs.GridRule.{refused_above}

-- ---- plate A

-- the bytes say what they are written from
pub plate_A_read : sheet_of (sheet_bytes (plate_a (point plus_zero plus_zero))) ≡ plate_a (point plus_zero plus_zero)
unfolding sheet_of sheet_bytes plate_a of_bits
plate_A_read = refl

-- the rows down to 13, with room for just the points
thirteen : first (down_to 13 (chart_checks (sheet_bytes (plate_a (raised 13))) 0 136)) ≡ 13
unfolding first down_to chart_checks big sheet_bytes plate_a of_bits smaller_of larger_of hypot_of deviation_limit scale_limit join_limit
thirteen = refl

passes : first (down_to 13 (chart_checks (sheet_bytes (plate_a (raised 14))) 0 136)) ≡ 0
unfolding first down_to chart_checks big sheet_bytes plate_a of_bits smaller_of larger_of hypot_of deviation_limit scale_limit join_limit
passes = refl

-- the table turns on the room by row 9 alone
same_rows : (s : List ℕ) (phase room more : ℕ) → room_wrong (sheet_of s) more ≡ room_wrong (sheet_of s) room → chart_checks s phase more ≡ chart_checks s phase room
unfolding chart_checks
same_rows s phase room more e = ap (λ (b : Bool). layout_checks s ++ content_checks (sheet_of s) ++ check 8 (phase_wrong (sheet_of s) phase) ∷ check 9 b ∷ frame_checks (sheet_of s) phase) e

module _ (last : Point) where
  abbrev bytes_a : List ℕ
  bytes_a = sheet_bytes (plate_a last)

  points_A : point_count (sheet_of bytes_a) ≡ 68
  unfolding point_count sheet_of sheet_bytes plate_a
  points_A = refl

  room_right_lem : (room : ℕ) → 136 ≤ room → room_wrong (sheet_of bytes_a) room ≡ false
  unfolding room_wrong
  room_right_lem room h = rw points_A (le-ltb room 136 h)

  more_room : (room : ℕ) → 136 ≤ room → first (down_to 13 (chart_checks bytes_a 0 room)) ≡ first (down_to 13 (chart_checks bytes_a 0 136))
  more_room room h = ap (λ (cs : List Check). first (down_to 13 cs)) (same_rows bytes_a 0 136 room (room_right_lem room h ∙ sym (room_right_lem 136 (omega arith))))

pub plates : Plates
unfolding xor inside_of winding_of joins_open square halfway decimal of_bits sheet_of sheet_bytes plate_a smaller_of larger_of hypot_of round_of wrap_of join_limit
plates = record {
  round_up = round_two_and_a_half;
  round_down = round_minus_two_and_a_half;
  root_of_two = root_two;
  root_of_least = root_least;
  lower_side = refl;
  upper_side = refl;
  winding_above = refl;
  winding_below = refl;
  winding_reversed = refl;
  plate_A_13_read = refl;
  plate_A_14_read = refl;
  plate_A_open = λ out h.
      let rows = more_room (raised 13) (length out) h ∙ thirteen in
      refused_above (sheet_bytes (plate_a (raised 13))) 0 out (λ z. never (sym rows ∙ z)) ∙ rows;
  plate_A_joins = refl;
  plate_A_passes = λ out h. more_room (raised 14) (length out) h ∙ passes;
}
  where
    never : ◌≡◌ {A = ℕ} 13 0 → ⊥
    never e = omega arith
