-- `points::ring::mark` writes the ring's marks over the front of the list. The invariant: they have room there, and those
-- of the coedges that came are written.
use Rattle.std.proofs.Common.{◌≤◌, ◌+◌, length, sym, ap, ◌∙◌, arith, rules}
use Rattle.answers.proofs.Over.{over_short}
use Rattle.sheet.specs.Content.{Coedge}
use Rattle.points.specs.Joins.{first_only, opens}
use Rattle.points.proofs.InParts.{next_within, next_written, parts_over}
use Rattle.points.proofs.InPlace.{none_written}
use Rattle.points.proofs.Marks.{length_first_only, length_opens}
use Rattle.points.proofs.ring.mark.Goals as goal

pub returns-then-marks-point_count : goal.returns-then-marks-point_count
returns-then-marks-point_count c = sym (over_short _ c.args.marks.now (omega (arith, c.point_count.ensures.count, length_opens c.args.ring.now)))

pub loop-coedge-init : goal.loop-coedge-init
unfolding opens
loop-coedge-init c =
    rw (c.into_iter-coedge-iterator.ensures.into_iter_gives, c.coedges-coedge-items.ensures.coedges) (omega (arith, c.point_count.ensures.count, length_opens c.args.ring.now), none_written _ _)

-- the next coedge's marks have room
within : (c : goal.After-point_count-in-loop-coedge) → c.loop-coedge.from + c.point_count-in-loop-coedge.result ≤ length c.loop-coedge.marks
within c =
    let i = c.loop-coedge.invariant in
    next_within (λ (c : Coedge). first_only (length c.points)) i.1 c.in-Some.ensures.steps _ (c.point_count-in-loop-coedge.ensures.count ∙ sym (length_first_only _)) i.0

pub overflow_add-to : goal.overflow_add-to
overflow_add-to c = let room = within c in search rules

pub slice_bounds-mark_coedge-end : goal.slice_bounds-mark_coedge-end
slice_bounds-mark_coedge-end c = let room = within c in search rules

pub loop-coedge-preserved : goal.loop-coedge-preserved
loop-coedge-preserved c =
    let i = c.loop-coedge.invariant in
    (i.0, next_written (λ (c : Coedge). first_only (length c.points)) i.1 c.in-Some.ensures.steps _ (c.point_count-in-loop-coedge.ensures.count ∙ sym (length_first_only _)) i.0 (c.mark_coedge.ensures ∙ ap first_only (search rules)))

pub returns : goal.returns
returns c = let i = c.loop-coedge.invariant in parts_over (λ (c : Coedge). first_only (length c.points)) i.1 c.in-None.ensures.steps.0 i.0
