-- `clearance::segment_list::lay` writes the ring's segments over the front of the list. The loop's invariant: those
-- that the iterator has given are written.
use Rattle.std.proofs.Common.{sym, ap, arith, map, length, inl}
use Rattle.std.proofs.lemmas.List.{length-append, length-map}
use Rattle.answers.proofs.Over.{over_short}
use Rattle.points.proofs.InPlace.{item_written, over_written}
use Rattle.points.proofs.RingFolds.{segments_count}
use Rattle.clearance.specs.Clearance.{laid}
use Rattle.clearance.proofs.segment_list.lay.Goals as goal

pub returns-then-list-ring : goal.returns-then-list-ring
returns-then-list-ring c = sym (over_short _ c.args.list.now (simp (length-map, segments_count) (omega arith)))

pub loop-k-init-derived : goal.loop-k-init-derived
loop-k-init-derived c =
    let e = c.enumerate-k-items.ensures in
    ((tt, tt, inl (rw (c.into_iter-k-iterator.ensures.into_iter_gives, e.source, e.count, c.segments.ensures, segments_count) (omega arith))), tt)

pub bounds-list-k : goal.bounds-list-k
bounds-list-k c =
    let s = c.in-Some.ensures.steps in
    let w = c.loop-k.invariant in
    omega (arith, w.count, s.1, simp (length-append, length-map, s.0, segments_count) at (ap length w.all))

pub loop-k-preserved : goal.loop-k-preserved
loop-k-preserved c =
    let s = c.in-Some.ensures.steps in
    let w = c.loop-k.invariant in
    rw (s.1, s.2, c.laid.ensures) (item_written w _ _ (ap (map (laid c.args.period)) s.0) (omega (arith, w.count, simp (length-append, length-map, s.0, segments_count) at (ap length w.all))))

pub returns : goal.returns
returns c =
    let w = c.loop-k.invariant in
    let n = c.in-None.ensures.steps.0.0 in
    over_written w (ap (map (laid c.args.period)) n) (omega (arith, w.count, simp (length-append, n) at (ap length w.all))) (omega (arith, w.count, simp (length-append, length-map, n, segments_count) at (ap length w.all)))
