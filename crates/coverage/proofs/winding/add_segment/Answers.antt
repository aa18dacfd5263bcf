-- `coverage::winding::add_segment` adds the segment's crossings to every cell. The invariant: the cells of the columns
-- before i have theirs, and the turns at hand are the segment's. A round adds the crossings of one column.
use mathlib.Core.Path.{◌≡◌, refl, ◌∙◌}
use Prim.Native.Nat.{◌+◌, ◌-◌, ◌*◌}
use native.Mathlib.Omega.{arith}
use lib.IntN.{pos}
use lib.ListN.{length, take, drop, length-take, length-drop}
use Rattle.inside.proofs.Cells.{none_changed, in_line, line_changed, all_changed}
use Rattle.coverage.proofs.Columns.{step_in_column}
use Rattle.coverage.proofs.winding.add_segment.Invariants.{plus}
use Rattle.coverage.proofs.winding.add_segment.Goals as goal

pub loop-i-init : goal.loop-i-init
loop-i-init c =
    let x = c.args in
    record {
      added = none_changed (pos 0) 961 (plus x.period x.s) x.cells.now c.told-cells;
      same_period = c.new-turns.ensures.0;
      same_mid = c.new-turns.ensures.1 ∙ c.middle.ensures;
      at_hand = omega arith;
    }

pub add_column-requires : goal.add_column-requires
add_column-requires c =
    let x = c.args in
    let i = c.loop-i.i in
    let change = plus x.period x.s in
    let added = c.loop-i.invariant.added in
    let column : 31 * i + 31 - 31 * i ≡ 31 = omega arith in
    let whole : length (take 31 (drop (31 * i) c.loop-i.cells)) ≡ 31 = simp (length-take, length-drop) (omega (arith, added.count)) in
    rw (column, whole) (refl, λ m h. rw (in_line (pos 0) 961 change x.cells.now (31 * i) c.loop-i.cells added 31 m h) (c.requires (31 * i + m) (omega (arith, c.told-cells))))

pub loop-i-preserved : goal.loop-i-preserved
loop-i-preserved c =
    let x = c.args in
    let i = c.loop-i.i in
    let change = plus x.period x.s in
    let inv = c.loop-i.invariant in
    let r = c.bring_to in
    let copy = rw (r.ensures.0, inv.same_period, r.ensures.1, inv.same_mid) at r.new.self.serving (i + 1) r.ensures.2 r.ensures.3 in
    let column : 31 * i + 31 - 31 * i ≡ 31 = omega arith in
    record {
      added = rw column
          (line_changed (pos 0) 961 change x.cells.now (31 * i) c.loop-i.cells inv.added 31 (31 * (i + 1)) (omega arith) (omega arith) _ _ (rw column at c.add_column.ensures)
          (λ m h. rw (in_line (pos 0) 961 change x.cells.now (31 * i) c.loop-i.cells inv.added 31 m h, step_in_column x.period x.s i m h, c.part.ensures, ← copy, c.gained-moved.ensures)));
      same_period = r.ensures.0 ∙ inv.same_period;
      same_mid = r.ensures.1 ∙ inv.same_mid;
      at_hand = omega arith;
    }

pub returns : goal.returns
returns c =
    let x = c.args in
    all_changed (pos 0) 961 (plus x.period x.s) x.cells.now (31 * c.loop-i.i) c.loop-i.cells c.loop-i.invariant.added (omega arith)
