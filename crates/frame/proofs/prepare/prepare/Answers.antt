-- `frame::prepare::prepare` writes what each ring gives behind what those before it gave. The invariant: the rings before
-- the next are written, and the lists have room for just those that are left.
use Rattle.std.proofs.Common.{◌≡◌, ℕ, ap, ◌∙◌, arith, inl, length, map, rules}
use mathlib.Core.List.{flatten}
use Rattle.sheet.specs.Layout.{sheet_of}
use Rattle.sheet.proofs.Checked.{ring_number}
use Rattle.frame.specs.Framing.{moved_rings, point_count}
use Rattle.frame.specs.Parts.{ends_from}
use Rattle.frame.proofs.Counting.{moved_of}
use Rattle.frame.proofs.Preparing.{none_prepared, within, ring_prepared, all_prepared}
use Rattle.frame.proofs.prepare.prepare.Goals as goal

pub loop-k-init : goal.loop-k-init
unfolding point_count
loop-k-init c =
    let s = c.args.s.now in
    let seventh = c.type_inv.s 7 in
    let all : c.into_iter-k-iterator.result.iter ≡ (sheet_of s).rings = ap (λ i. i.iter) c.into_iter-k-iterator.ensures.into_iter_gives ∙ c.enumerate-k-items.ensures.source ∙ c.rings.ensures in
    let first : c.into_iter-k-iterator.result.count ≡ 0 = ap (λ i. i.count) c.into_iter-k-iterator.ensures.into_iter_gives ∙ c.enumerate-k-items.ensures.count in
    rw (all, first) ((tt, tt, inl (omega arith)), tt, omega (arith, ring_number s), none_prepared c.kind_of-kind.result c.args.phase (sheet_of s).rings c.requires.0 c.requires.1 c.requires.2)

pub overflow_add-to : goal.overflow_add-to
overflow_add-to c = let room = within c.loop-k.invariant.3 c.in-Some.ensures.steps.0 _ c.point_count.ensures.count in search rules

pub offset_bounds-points-from : goal.offset_bounds-points-from
offset_bounds-points-from c = let room = within c.loop-k.invariant.3 c.in-Some.ensures.steps.0 _ c.point_count.ensures.count in search rules

pub slice_bounds-move_ring-end : goal.slice_bounds-move_ring-end
slice_bounds-move_ring-end c = let room = within c.loop-k.invariant.3 c.in-Some.ensures.steps.0 _ c.point_count.ensures.count in search rules

pub slice_bounds-mark-end : goal.slice_bounds-mark-end
slice_bounds-mark-end c = let room = within c.loop-k.invariant.3 c.in-Some.ensures.steps.0 _ c.point_count.ensures.count in search rules

pub loop-k-preserved : goal.loop-k-preserved
loop-k-preserved c =
    let steps = c.in-Some.ensures.steps in
    let prepared = ring_prepared c.loop-k.invariant.3 steps.0 _ c.point_count.ensures.count _ c.move_ring.ensures c.mark.ensures (search rules) in
    let left = ap length steps.0 in
    ((tt, tt, inl (omega arith)), tt, omega arith, rw (steps.1, steps.2) prepared)

pub returns : goal.returns
unfolding moved_rings sheet_of
returns c =
    let s = c.args.s.now in
    let rings : map (moved_of c.kind_of-kind.result c.args.phase) (sheet_of s).rings ≡ moved_rings (sheet_of s) c.args.phase = ap (λ (k : ℕ). map (moved_of k c.args.phase) (sheet_of s).rings) c.kind_of-kind.ensures in
    let all = all_prepared c.loop-k.invariant.3 c.in-None.ensures.steps.0.0 in
    (all.0 ∙ ap flatten rings, all.1, all.2 ∙ ap (ends_from 0) rings)
