-- `points::ring::unroll` moves every point. The invariant: of the moved points the first are written, and the last of
-- them is `previous`.
use Rattle.std.proofs.Common.{refl, ap, map, arith}
use lib.Ieee.{nan}
use Rattle.std.proofs.lemmas.List.{drop_all, nil_from_length}
use Rattle.sheet.specs.Content.{point}
use Rattle.points.specs.Unroll.{wrapped, follow, unrolled, moved_ring}
use Rattle.points.proofs.InPlace.{none_written, unwritten, item_written, all_filled}
use Rattle.points.proofs.ring.unroll.Goals as goal

pub returns-in_default : goal.returns-in_default
unfolding moved_ring unrolled
returns-in_default c = rw (nil_from_length c.args.points.now c.in_default.ensures.cases) refl

pub loop-p-init : goal.loop-p-init
loop-p-init c = none_written _ _

pub loop-p-preserved : goal.loop-p-preserved
unfolding follow
loop-p-preserved c =
    let i = c.loop-p in
    let next = unwritten i.invariant (point nan nan) (omega arith) in
    item_written i.invariant c.moved-previous.result _ (rw (next, c.moved-previous.ensures, c.wrapped-in-loop-p.ensures) refl) (omega arith)

pub returns : goal.returns
unfolding moved_ring unrolled follow
returns c =
    let i = c.loop-p in
    let a = c.args in
    let none = ap (λ ps. follow a.kind i.previous (map (wrapped a.phase) ps)) (drop_all i.p-index c.in-Some.rest.now (omega arith)) in
    rw (all_filled i.invariant none (omega arith), c.wrapped.ensures, c.in-Some.ensures.cases.0) refl
