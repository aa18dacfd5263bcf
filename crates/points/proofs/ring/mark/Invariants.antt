use mathlib.Core.List.{flat_map}
use Prim.Native.Nat.{◌≤◌}
use lib.ListN.{length}
use Rattle.sheet.specs.Content.{Coedge}
use Rattle.points.specs.Joins.{first_only, opens}
use Rattle.points.proofs.InPlace.{Written}
use Rattle.points.proofs.ring.mark.Given as goal

abbrev pub invariant-loop-coedge : goal.invariant-loop-coedge
invariant-loop-coedge l =
    (length (opens l.ring) ≤ length l.initial.marks)
    × Written l.initial.marks l.marks l.from (flat_map (λ (c : Coedge). first_only (length c.points)) l.coedge-iterator) (opens l.ring)
