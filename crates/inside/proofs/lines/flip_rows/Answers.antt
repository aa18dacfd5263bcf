-- `inside::lines::flip_rows` flips what the edge flips. The invariant: the rows before j have flipped. Rows before
-- the first `low` do not flip, nor do those from `high` on; a turn flips the row between them that it is at,
-- as far as the edge's cut.
use mathlib.Core.Path.{◌≡◌, refl}
use mathlib.Core.Bool.{false}
use Prim.Native.Nat.{◌+◌, ◌-◌, ◌*◌}
use native.Mathlib.Omega.{arith}
use lib.ListN.{get_or, length, take, drop, length-take, length-drop}
use Rattle.inside.proofs.Cells.{none_changed, passed, in_line, line_changed, all_changed}
use Rattle.inside.proofs.Flips.{after, flipped_front, kept_back, still_before, still_after}
use Rattle.inside.proofs.lines.flip_rows.Goals as goal

pub loop-j-init : goal.loop-j-init
loop-j-init c =
    let x = c.args in
    let p = c.requires in
    let change = after x.edge.a x.edge.b in
    let old = x.cells.now in
    passed false 961 change old 0 old (none_changed false 961 change old c.told-cells) (31 * x.low) (omega arith) (λ k h l. still_before x.edge.a x.edge.b x.low x.high p k l (get_or old k false))

pub loop-j-preserved : goal.loop-j-preserved
loop-j-preserved c =
    let x = c.args in
    let p = c.requires in
    let change = after x.edge.a x.edge.b in
    let old = x.cells.now in
    let j = c.loop-j.j in
    let inv = c.loop-j.invariant in
    let n = c.lines_below-count.result in
    let below = rw (c.cut.ensures, c.part.ensures) at c.lines_below-count.ensures in
    let short = below.most in
    let top = p.most in
    let l = c.loop-j.cells in
    let size : 31 * j + n - 31 * j ≡ n = omega arith in
    let whole : length (take n (drop (31 * j) l)) ≡ n = simp (length-take, length-drop) (omega (arith, inv.count)) in
    let new = rw (size, whole) at c.flip.ensures in
    passed false 961 change old (31 * j + n) _
    (rw size
    (line_changed false 961 change old (31 * j) l inv n (31 * j + n) refl (omega arith) _ _ new
    (λ m h. rw (in_line false 961 change old (31 * j) l inv n m h) (flipped_front x.edge.a x.edge.b x.low x.high p j n (omega arith) (omega arith) below m h (get_or old (31 * j + m) false)))))
    (31 * (j + 1))
    (omega arith)
    (λ k h g. kept_back x.edge.a x.edge.b x.low x.high p j n (omega arith) (omega arith) below k h g (get_or old k false))

pub returns : goal.returns
returns c =
    let x = c.args in
    let p = c.requires in
    let change = after x.edge.a x.edge.b in
    let old = x.cells.now in
    all_changed false 961 change old 961 c.loop-j.cells
    (passed false 961 change old (31 * c.loop-j.j) c.loop-j.cells c.loop-j.invariant 961 (omega arith)
    (λ k h g. still_after x.edge.a x.edge.b x.low x.high p k g (omega arith) (get_or old k false)))
    (omega arith)
