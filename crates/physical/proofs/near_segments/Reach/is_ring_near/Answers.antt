-- `physical::near_segments::Reach::is_ring_near` is `any_near`, from nothing near, of the places that the iterator has
-- to give. The loop's invariant: what is told by the segments that are left, from the place a through those that the
-- iterator has yet to give, is the whole answer, as none before is near. A turn takes one segment, and ends the loop
-- where it is near: the rest change nothing then. The closing segment comes after the loop.
use Rattle.physical.proofs.Nearness.{near_none, near_next, near_found, near_last}
use Rattle.physical.proofs.near_segments.Reach.is_ring_near.Goals as goal

pub returns-in_default : goal.returns-in_default
returns-in_default g c = let x = c.args in near_none x.self.limit x.p g.I.Iterator.next_gives x.places c.in_default.ensures.steps

pub returns-then-is_near : goal.returns-then-is_near
returns-then-is_near g c = near_found (near_next c.loop-b.invariant.2 c.in-Some-b.ensures.steps c.if-is_near.ensures)

pub returns : goal.returns
returns g c = near_last c.loop-b.invariant.2 c.in-None.ensures.steps c.is_near-2.ensures
