-- `frame::prepare::move_ring` meets its contract, by those of `read` and `unroll`: the list has room for just the
-- ring's points.
use Rattle.frame.proofs.Preparing.{ring_moved}
use Rattle.frame.proofs.prepare.move_ring.Goals as goal

pub returns : goal.returns
returns c = ring_moved c.args.kind c.args.phase c.args.ring.now c.args.points.now c.requires c.read.ensures c.unroll.ensures
