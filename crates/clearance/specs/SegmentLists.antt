-- A second form of rule 8, which the code works by: the segments of all rings in one list. On a periodic chart the list
-- has `laid` segments, and what is left of rule 8's copy, `shifted_to`, is the same for all points of a column. The law
-- `chosen_is` (crates/chart/proofs/Choosing.antt) joins it to the first form, which is Clearance.
use Rattle.std.specs.Prelude.{Option, Some, None, Float}
use mathlib.Core.List.{List, map, flat_map}
use Rattle.sheet.specs.Content.{Point}
use Rattle.points.specs.Segments.{Segment, segments}
use Rattle.clearance.specs.Clearance.{laid, shifted_to}

-- the segments of rings, one ring behind the other
unfoldable pub laid_rings : Option Float → List (List Point) → List Segment
unfolding laid segments flat_map
laid_rings period rings = flat_map (λ (ring : List Point). map (laid period) (segments ring)) rings

-- the segments from which the points at u are measured
unfoldable pub copies_at : Option Float → Float → List Segment → List Segment
unfolding shifted_to
copies_at (Some period) u ss = map (shifted_to period u) ss
copies_at None u ss = ss
