-- How the code keeps the rings of a sheet: the points of all rings one behind the other in one list, and where each
-- ring's end.
use mathlib.Core.List.{List, [], ◌∷◌, flatten}
use Rattle.std.specs.Prelude.{◌≡◌, ℕ, ◌+◌, ◌-◌, length, take, drop}
use Rattle.sheet.specs.Content.{Point}
use Rattle.frame.specs.declared.ring_list.Rings.{Rings}
use Rattle.frame.specs.declared.ring_list.RingsLeft.{RingsLeft}

-- the parts of the list that end at the given places, each from where the one before it ends
unfoldable pub rings_from : ℕ → List ℕ → List Point → List (List Point)
rings_from from [] points = []
rings_from from (end ∷ ends) points = take (end - from) (drop from points) ∷ rings_from end ends points

-- those of the code's struct (src/ring_list.rt), and those that its iterator has yet to give
unfoldable pub rings_in : Rings → List (List Point)
unfolding rings_from
rings_in rings = rings_from 0 rings.ends.now rings.points.now

unfoldable pub rings_left : RingsLeft → List (List Point)
unfolding rings_from
rings_left it = rings_from it.from it.ends.now it.points.now

-- where each ring's points end, when the first begins at `from`
unfoldable pub ends_from : ℕ → List (List Point) → List ℕ
ends_from from [] = []
ends_from from (ring ∷ rings) = (from + length ring) ∷ ends_from (from + length ring) rings

-- the ends part the list into rings with nothing between them and nothing left over
pub record Packed (ends : List ℕ) (points : List Point) : Type 0 where
  pub points_are : points ≡ flatten (rings_from 0 ends points)
  pub ends_are : ends ≡ ends_from 0 (rings_from 0 ends points)
