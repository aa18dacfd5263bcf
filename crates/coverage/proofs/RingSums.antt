-- How many points rings have together that stand in one list: so many for each ring at most as the list has.
use mathlib.Core.List.{List, [], ◌∷◌}
use Prim.Native.Nat.{ℕ, ◌+◌, ◌-◌, ◌*◌, ◌≤◌}
use native.Mathlib.Nat.{suc-mul}
use native.Mathlib.Omega.{arith}
use lib.ListN.{length, drop, length-take, length-drop}
use Rattle.sheet.specs.Content.{Point}
use Rattle.frame.specs.Parts.{rings_from}

abbrev pub points_together : List (List Point) → ℕ
points_together [] = 0
points_together (ring ∷ rings) = length ring + points_together rings

pub points_few : (from : ℕ) (ends : List ℕ) (points : List Point) (most : ℕ) → length points ≤ most → points_together (rings_from from ends points) ≤ length ends * most
unfolding rings_from
points_few from [] points most h = omega arith
points_few from (end ∷ ends) points most h =
    rw suc-mul (omega (arith, points_few end ends points most h, length-take (end - from) (drop from points), length-drop from points))
