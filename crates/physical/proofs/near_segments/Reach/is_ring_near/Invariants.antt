use mathlib.Core.Bool.{false}
use Rattle.physical.proofs.Nearness.{IsTold}
use Rattle.physical.proofs.near_segments.Reach.is_ring_near.Given as goal

abbrev pub invariant-loop-b : goal.invariant-loop-b
invariant-loop-b g l =
    (goal.iterator-loop-b g).can_next l.b-iterator
    × (goal.iterator-loop-b g).is_finite l.b-iterator
    × IsTold l.self.limit l.p g.I.Iterator.next_gives l.fn.places l.first false l.a l.b-iterator
