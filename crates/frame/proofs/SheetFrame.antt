-- A sheet's frame and joins by its moved rings and their marks, as the code comes by them, and how many moved points
-- there are.
use mathlib.Core.List.{List, ◌++◌, flat_map, flatten}
use mathlib.Core.Path.{◌≡◌, refl, sym, ap, ◌∙◌}
use mathlib.Core.Bool.{Bool}
use Prim.Native.Nat.{ℕ, ◌≤◌}
use lib.ListN.{length}
use Rattle.answers.specs.Outcome.{first}
use Rattle.sheet.specs.Checks.{layout_checks, content_checks}
use Rattle.sheet.specs.Content.{Point}
use Rattle.sheet.specs.Layout.{kind, sheet_of}
use Rattle.sheet.proofs.Checked.{checked}
use Rattle.points.specs.Joins.{opens}
use Rattle.frame.specs.Frame.{frame_of}
use Rattle.frame.specs.Framing.{moved_rings, frame, joins_open, point_count, join_rows, join_checks}
use Rattle.frame.specs.Stages.{open_marked}
use Rattle.frame.proofs.Counting.{parts_length, moved_of, moved_length}
use Rattle.frame.proofs.Marking.{marked_open}
use Rattle.frame.proofs.Parting.{flat_is}

module _ (s : List ℕ) (phase : ℕ) where
  abbrev rings : List (List Point)
  rings = moved_rings (sheet_of s) phase

  abbrev marks : List Bool
  marks = flat_map opens (sheet_of s).rings

  pub sheet_frame : frame (sheet_of s) phase ≡ frame_of (kind s) rings
  unfolding frame sheet_of
  sheet_frame = refl

  pub sheet_open : joins_open (sheet_of s) phase ≡ open_marked (frame (sheet_of s) phase) marks rings
  unfolding joins_open moved_rings
  sheet_open = sym (marked_open (frame (sheet_of s) phase) (moved_of (sheet_of s).kind phase) (moved_length (sheet_of s).kind phase) (sheet_of s).rings)

  -- checks 11 to 13 are the rows of the frame
  pub sheet_rows : join_checks (sheet_of s) phase ≡ join_rows (frame (sheet_of s) phase) (open_marked (frame (sheet_of s) phase) marks rings)
  unfolding join_checks
  sheet_rows = ap (join_rows (frame (sheet_of s) phase)) sheet_open

  pub moved_points : length (flatten rings) ≡ point_count (sheet_of s)
  unfolding moved_rings point_count
  moved_points =
      let k = (sheet_of s).kind in
      ap length (sym (flat_is (moved_of k phase) (sheet_of s).rings)) ∙ parts_length (moved_of k phase) (moved_length k phase) (sheet_of s).rings

-- ---- a sheet that reads has a point, and no more points than the largest

pub points_most : (s : List ℕ) → first (layout_checks s ++ content_checks (sheet_of s)) ≡ 0 → point_count (sheet_of s) ≤ 2176
unfolding point_count
points_most s reads = (checked s reads).points_most

pub points_least : (s : List ℕ) → first (layout_checks s ++ content_checks (sheet_of s)) ≡ 0 → 1 ≤ point_count (sheet_of s)
unfolding point_count
points_least s reads = (checked s reads).points_least
