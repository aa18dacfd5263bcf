-- `sheet::outline::Ring::point_count` adds the coedges' points up. The invariant: with those that are left they are
-- all.
use Rattle.std.proofs.Common.{◌≡◌, ap, ◌∙◌, arith, length}
use mathlib.Core.List.{flat_map}
use Rattle.sheet.specs.Content.{ring_points}
use Rattle.sheet.proofs.Blocks.{points_next}
use Rattle.sheet.proofs.outline.Ring.point_count.Goals as goal

pub loop-coedge-init : goal.loop-coedge-init
loop-coedge-init c =
    let all : c.into_iter-coedge-iterator.result ≡ c.args.self.now = c.into_iter-coedge-iterator.ensures.into_iter_gives ∙ c.coedges-coedge-items.ensures.coedges in
    (tt, tt, omega (arith, ap length all, c.coedges-coedge-items.ensures.most), omega (arith, ap (λ r. length (ring_points r)) all))

pub overflow_add-count : goal.overflow_add-count
overflow_add-count c = omega (arith, ap length c.in-Some.ensures.steps, c.point_count-count.ensures.most, c.loop-coedge.invariant.2)

pub loop-coedge-preserved : goal.loop-coedge-preserved
loop-coedge-preserved c =
    let left = ap length c.in-Some.ensures.steps in
    let points = points_next c.in-Some.ensures.steps in
    (tt, tt, omega (arith, left, c.point_count-count.ensures.most, c.loop-coedge.invariant.2), omega (arith, points, c.point_count-count.ensures.count, c.loop-coedge.invariant.3))

pub returns-clause-count : goal.returns-clause-count
unfolding ring_points flat_map
returns-clause-count c = omega (arith, ap (λ r. length (ring_points r)) c.in-None.ensures.steps.0, c.loop-coedge.invariant.3)

pub returns-clause-most : goal.returns-clause-most
returns-clause-most c = omega (arith, c.loop-coedge.invariant.2)
