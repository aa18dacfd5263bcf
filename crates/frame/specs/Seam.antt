-- The seam at which chart and picks begin: the rows 1 to 8 of their tables; then the moved points of a sheet in lists
-- that the caller lends, with the frame, or the first of 11 to 13 that fails.
-- Each call puts its own 9 or 10 between the two. Both have a value for every list of bytes, and lists of another size
-- than the sheet's are refused with 9.
use Rattle.std.specs.Prelude.{Bool, not, cond, ◌&&◌, ℕ, eqb, leb, length, Result}
use mathlib.Core.List.{List, [], ◌∷◌, ◌++◌, flatten}
use Rattle.answers.specs.Outcome.{Check, check, first, settle}
use Rattle.sheet.specs.Checks.{layout_checks, content_checks}
use Rattle.sheet.specs.Content.{Point, Sheet}
use Rattle.sheet.specs.Layout.{sheet_of}
use Rattle.frame.specs.Framing.{moved_rings, frame, point_count, phase_wrong, join_checks}
use Rattle.frame.specs.Parts.{ends_from}
use Rattle.frame.specs.declared.framing.Frame.{Frame}

-- ---- 1 to 8

unfoldable pub phase_checks : List ℕ → ℕ → List Check
unfolding layout_checks content_checks sheet_of phase_wrong
phase_checks s phase = layout_checks s ++ content_checks (sheet_of s) ++ check 8 (phase_wrong (sheet_of s) phase) ∷ []

-- ---- lists for the moved points and for the rings' ends

-- how many points an accepted sheet has at most
abbrev pub most_points : ℕ
most_points = 2176

-- whether lists of so many points and so many ends are just the sheet's, and no longer than the largest accepted
-- sheet's
unfoldable pub fitting : Sheet → ℕ → ℕ → Bool
unfolding point_count
fitting s points ends = eqb points (point_count s) && (eqb ends (length s.rings) && leb points most_points)

-- the points of the moved rings, one ring behind the other, and where each ring's end; lists of another size stay
unfoldable pub laid_points : Bool → Sheet → ℕ → List Point → List Point
unfolding flatten moved_rings
laid_points fits s phase points = cond fits (flatten (moved_rings s phase)) points

unfoldable pub laid_ends : Bool → Sheet → ℕ → List ℕ → List ℕ
unfolding ends_from moved_rings
laid_ends fits s phase ends = cond fits (ends_from 0 (moved_rings s phase)) ends

-- ---- 11 to 13, behind 9 of these lists

unfoldable pub seam_checks : Bool → Sheet → ℕ → List Check
unfolding join_checks
seam_checks fits s phase = check 9 (not fits) ∷ join_checks s phase

-- the frame where no check fails, else the first that does
unfoldable pub framed_of : Bool → Sheet → ℕ → Result Frame ℕ
unfolding settle first seam_checks frame
framed_of fits s phase = settle (first (seam_checks fits s phase)) (frame s phase)
