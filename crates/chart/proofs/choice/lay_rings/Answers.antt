-- `chart::choice::lay_rings` lays the segments of all rings. The loop's invariant: the front of the list and the
-- segments of the rings that are left are the whole, and the list has room for them. A turn lays one ring.
use Prim.Native.Nat.{◌+◌, ◌≤◌}
use native.Mathlib.Omega.{arith}
use lib.ListN.{length}
use Rattle.chart.proofs.Choosing.{length_laid, room_more, ring_laid, all_laid}
use Rattle.chart.proofs.choice.lay_rings.Goals as goal

pub slice_bounds-lay-end : goal.slice_bounds-lay-end
slice_bounds-lay-end c = omega (arith, room_more c.loop-ring.at _ c.in-Some.ensures.steps c.loop-ring.invariant.room)

pub loop-ring-preserved : goal.loop-ring-preserved
loop-ring-preserved c =
    let l = c.loop-ring in
    let n = length c.in-Some.ring.now in
    let more = room_more l.at (length l.list) c.in-Some.ensures.steps l.invariant.room in
    let fits : l.at + n ≤ length l.list = omega (arith, more) in
    record {
      room = rw (length_laid l.list c.lay.new.list l.at n c.lay.auto.list fits) more;
      laid = ring_laid c.args.period _ l.list c.lay.new.list l.at c.in-Some.ensures.steps fits c.lay.ensures l.invariant.laid;
    }

pub returns : goal.returns
returns c =
    let l = c.loop-ring in
    (omega (arith, l.invariant.room, l.auto.list), all_laid c.args.period _ l.list l.list l.at c.in-None.ensures.steps.0 l.invariant.laid)
