-- What the private functions behind the seam promise each other, on rings that stand in one list of points (Parts). A
-- reader of the calls' definitions needs nothing of it.
use Rattle.std.specs.Prelude.{Bool, false, ◌||◌, List, [], ◌∷◌, length, take, drop}
use Rattle.sheet.specs.Content.{Point}
use Rattle.points.specs.Joins.{ring_open}
use Rattle.frame.specs.declared.framing.Frame.{Frame}

-- check 13 on rings whose points are marked, each ring's marks behind those of the rings before it
unfoldable pub open_marked : Frame → List Bool → List (List Point) → Bool
unfolding ring_open
open_marked f marks [] = false
open_marked f marks (ring ∷ rings) = ring_open f.periodic f.scale.u f.scale.v (take (length ring) marks) ring || open_marked f (drop (length ring) marks) rings
