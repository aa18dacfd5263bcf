-- Document 01, "Plates to hold against it": the square, the ring at half height, and plate A as a sheet's content. No
-- contract cites them: the theorem in proofs/Plates.antt does.
use Rattle.std.specs.Prelude.{◌≡◌, true, false, ℕ, ◌-◌, ◌^◌, ◌≤◌, pos, negsuc, length, Float}
use mathlib.Core.List.{List, [], ◌∷◌, ◌++◌, map, reverse}
use Rattle.std.specs.Float.{binary64}
use Rattle.std.specs.Float.Ieee.{round, of_bits}
use Rattle.leaves.specs.Constants.{plus_zero, decimal, one}
use Rattle.leaves.specs.Root.{root_of}
use Rattle.leaves.specs.Round.{round_of}
use Rattle.sheet.specs.Content.{Point, point, Coedge, Sheet}
use Rattle.sheet.specs.Layout.{sheet_of}
use Rattle.sheet.specs.Writing.{sheet_bytes}
use Rattle.points.specs.Grid.{up_from}
use Rattle.inside.specs.Inside.{inside_of}
use Rattle.coverage.specs.Coverage.{winding_of}
use Rattle.frame.specs.Framing.{joins_open}
use Rattle.chart.specs.Chart.{chart_checks, chart_of}
use Rattle.chart.specs.Demand.{Passes}

-- ---- "Square (0,0) (1,0) (1,1) (0,1)"
unfoldable pub square : List Point
square = point plus_zero plus_zero ∷ point one plus_zero ∷ point one one ∷ point plus_zero one ∷ []

-- ---- "ring at v = 0.5, u = 0, 0.25, 0.5, 0.75"
unfoldable pub halfway : List Point
halfway = point plus_zero (decimal 5 1) ∷ point (decimal 25 2) (decimal 5 1) ∷ point (decimal 5 1) (decimal 5 1) ∷ point (decimal 75 2) (decimal 5 1) ∷ []

-- ---- "Plate A: plane, origin 0, u axis (1,0,0), normal (0,0,1), that square as four coedges evenly sampled,
-- deviations 0"

unfoldable pub fraction : ℕ → ℕ → Float
unfolding round
fraction num den = round binary64 false num den

-- the square's sides, n sixteenths along
unfoldable pub bottom : ℕ → Point
unfolding fraction
bottom n = point (fraction n 16) plus_zero

unfoldable pub right : ℕ → Point
unfolding fraction
right n = point one (fraction n 16)

unfoldable pub top : ℕ → Point
unfolding fraction
top n = point (fraction (16 - n) 16) one

unfoldable pub left : ℕ → Point
unfolding fraction
left n = point plus_zero (fraction (16 - n) 16)

-- 17 points a side, both its ends among them; the ring's last point, which is (0, 0) on plate A itself, is given
unfoldable pub sides : Point → List (List Point)
unfolding up_from bottom right top left
sides last = map bottom (up_from 0 17) ∷ map right (up_from 0 17) ∷ map top (up_from 0 17) ∷ (map left (up_from 0 16) ++ last ∷ []) ∷ []

-- deviation 0
abbrev pub exact_coedge : List Point → Coedge
exact_coedge ps = record { deviation = plus_zero; points = ps }

unfoldable pub plate_a : Point → Sheet
unfolding sides
plate_a last = record {
  kind = 0;
  sense = 0;
  plane = plus_zero ∷ plus_zero ∷ plus_zero ∷ one ∷ plus_zero ∷ plus_zero ∷ plus_zero ∷ plus_zero ∷ one ∷ [];
  rings = map exact_coedge (sides last) ∷ [];
}

-- (0, 2^−k), for its last point
abbrev pub raised : ℕ → Point
raised k = point plus_zero (fraction 1 (2 ^ k))

-- ---- the rows marked ●, "stated jointly as a single proved list"

pub record Plates : Type 0 where
  -- round(2.5) = 3, round(−2.5) = −3
  pub round_up : round_of (of_bits binary64 0x4004000000000000) ≡ of_bits binary64 0x4008000000000000
  pub round_down : round_of (of_bits binary64 0xC004000000000000) ≡ of_bits binary64 0xC008000000000000
  -- root(2) has bits 3FF6A09E667F3BCD; root(2^−1074) = 2^−537
  pub root_of_two : root_of (of_bits binary64 0x4000000000000000) ≡ of_bits binary64 0x3FF6A09E667F3BCD
  pub root_of_least : root_of (of_bits binary64 1) ≡ of_bits binary64 0x1E60000000000000
  -- the square, `inside`: (0.5, 0) yes, (0.5, 1) no
  pub lower_side : inside_of square (point (decimal 5 1) plus_zero) ≡ true
  pub upper_side : inside_of square (point (decimal 5 1) one) ≡ false
  -- P = 1, the ring at v = 0.5: at (0.375, 0.75) winding 1, at (0.375, 0.25) 0; ring reversed, at (0.375, 0.75) −1
  pub winding_above : winding_of one (point (decimal 375 3) (decimal 75 2)) halfway ≡ pos 1
  pub winding_below : winding_of one (point (decimal 375 3) (decimal 25 2)) halfway ≡ pos 0
  pub winding_reversed : winding_of one (point (decimal 375 3) (decimal 75 2)) (reverse halfway) ≡ negsuc 0
  -- plate A, its last point at (0, 2^−13) and at (0, 2^−14): the bytes say what they are written from
  pub plate_A_13_read : sheet_of (sheet_bytes (plate_a (raised 13))) ≡ plate_a (raised 13)
  pub plate_A_14_read : sheet_of (sheet_bytes (plate_a (raised 14))) ≡ plate_a (raised 14)
  -- at (0, 2^−13): 13, whatever list is lent with room for the 68 points
  pub plate_A_open : (out : List Float) → 136 ≤ length out → (chart_of (sheet_bytes (plate_a (raised 13))) 0 out).numbers.status ≡ 13
  -- at (0, 2^−14): passes the joins, and every check above them
  pub plate_A_joins : joins_open (sheet_of (sheet_bytes (plate_a (raised 14)))) 0 ≡ false
  pub plate_A_passes : (out : List Float) → 136 ≤ length out → Passes 13 (chart_checks (sheet_bytes (plate_a (raised 14))) 0 (length out))
