-- `points::ring::read` writes the ring's points over the front of the list. The invariant: they have room there, and
-- those of the coedges that came are written.
use Rattle.std.proofs.Common.{◌≤◌, ◌+◌, length, sym, arith, rules}
use Rattle.answers.proofs.Over.{over_short}
use Rattle.sheet.specs.Content.{Coedge, ring_points}
use Rattle.points.proofs.InParts.{next_within, next_written, parts_over}
use Rattle.points.proofs.InPlace.{none_written}
use Rattle.points.proofs.ring.read.Goals as goal

pub returns-then-points-point_count : goal.returns-then-points-point_count
returns-then-points-point_count c = sym (over_short _ c.args.points.now (omega (arith, c.point_count.ensures.count)))

pub loop-coedge-init : goal.loop-coedge-init
unfolding ring_points
loop-coedge-init c =
    rw (c.into_iter-coedge-iterator.ensures.into_iter_gives, c.coedges-coedge-items.ensures.coedges) (omega (arith, c.point_count.ensures.count), none_written _ _)

-- the next coedge's points have room
within : (c : goal.After-point_count-in-loop-coedge) → c.loop-coedge.from + c.point_count-in-loop-coedge.result ≤ length c.loop-coedge.points
within c =
    let i = c.loop-coedge.invariant in
    next_within (λ (c : Coedge). c.points) i.1 c.in-Some.ensures.steps _ c.point_count-in-loop-coedge.ensures.count i.0

pub overflow_add-to : goal.overflow_add-to
overflow_add-to c = let room = within c in search rules

pub offset_bounds-points-from : goal.offset_bounds-points-from
offset_bounds-points-from c = let room = within c in search rules

pub slice_bounds-read_coedge-end : goal.slice_bounds-read_coedge-end
slice_bounds-read_coedge-end c = let room = within c in search rules

pub loop-coedge-preserved : goal.loop-coedge-preserved
loop-coedge-preserved c =
    let i = c.loop-coedge.invariant in
    (i.0, next_written (λ (c : Coedge). c.points) i.1 c.in-Some.ensures.steps _ c.point_count-in-loop-coedge.ensures.count i.0 c.read_coedge.ensures)

pub returns : goal.returns
returns c = let i = c.loop-coedge.invariant in parts_over (λ (c : Coedge). c.points) i.1 c.in-None.ensures.steps.0 i.0
