use mathlib.Core.List.{flat_map}
use Prim.Native.Nat.{◌≤◌}
use lib.ListN.{length}
use Rattle.sheet.specs.Content.{Coedge, ring_points}
use Rattle.points.proofs.InPlace.{Written}
use Rattle.points.proofs.ring.read.Given as goal

abbrev pub invariant-loop-coedge : goal.invariant-loop-coedge
invariant-loop-coedge l =
    (length (ring_points l.ring) ≤ length l.initial.points)
    × Written l.initial.points l.points l.from (flat_map (λ (c : Coedge). c.points) l.coedge-iterator) (ring_points l.ring)
