-- A second form of rules 6, 8 and 9, which the code works by: on segments in one list, by keys, and on a list that
-- tells which grid points are covered, in the grid's order. The law `chosen_is` (crates/chart/proofs/Choosing.antt)
-- joins it to the first form, `candidate` of crates/chart/specs/Chart.antt.
use Rattle.std.specs.Prelude.{Bool, false, List, Option, ℕ, ◌+◌, ◌-◌, ◌*◌, Float, get_or}
use Rattle.std.specs.Float.{inf}
use Rattle.leaves.specs.Hypot.{hypot_of_key}
use Rattle.points.specs.Grid.{part, grid_point}
use Rattle.points.specs.Segments.{Segment}
use Rattle.clearance.specs.Nearest.{least_key}
use Rattle.search.specs.Search.{search}
use Rattle.clearance.specs.SegmentLists.{copies_at}
use Rattle.search.specs.declared.candidate.Candidate.{Candidate}

-- whether (i, j) is covered; a place past the list's end is not
unfoldable pub covered_at : List Bool → ℕ → ℕ → Bool
covered_at covered i j = get_or covered ((i - 1) * 31 + (j - 1)) false

-- the clearance of (i, j) from segments
abbrev pub clear_to : List Segment → ℕ → ℕ → Float
clear_to ss i j = hypot_of_key (least_key (grid_point i j) (inf false) ss)

-- and from the segments that points in its column are measured from
unfoldable pub clearance_at : Option Float → List Segment → ℕ → ℕ → Float
unfolding least_key copies_at grid_point part
clearance_at period ss i j = clear_to (copies_at period (part i) ss) i j

unfoldable pub chosen_among : Option Float → List Segment → List Bool → Candidate
unfolding search covered_at clearance_at
chosen_among period ss covered = search (covered_at covered) (clearance_at period ss)
