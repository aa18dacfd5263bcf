-- `points::ring::read_coedge` writes the points of the coedge, as the iterator gives them.
use Rattle.std.proofs.Common.{length, ap, arith}
use Rattle.points.proofs.InPlace.{none_written, written_length, item_written}
use Rattle.points.proofs.ring.read_coedge.Goals as goal

pub loop-k-init : goal.loop-k-init
loop-k-init c =
    let items = c.enumerate-k-items.ensures in
    rw (c.into_iter-k-iterator.ensures.into_iter_gives, items.source, items.count, c.points.ensures) (none_written _ _)

pub loop-k-preserved : goal.loop-k-preserved
loop-k-preserved c =
    let next = c.in-Some.ensures.steps in
    rw (next.1, next.2) (item_written c.loop-k.invariant c.in-Some.p c.next.new.self.iter next.0 (omega (arith, written_length c.loop-k.invariant, ap length next.0)))
