-- `coverage::covering::flip_rings` flips each grid point once for each ring that it is inside of. The invariant, at
-- every grid point: the flips of the rings that are left, from the cell, give the whole answer. A turn flips one
-- ring's.
use mathlib.Core.Bool.{false}
use lib.ListN.{get_or-replicate}
use Rattle.inside.proofs.Cells.{flipped_cells}
use Rattle.coverage.proofs.covering.flip_rings.Goals as goal

pub loop-ring-init : goal.loop-ring-init
loop-ring-init c = record {
  size = c.told-cells;
  left = λ n l. rw (c.requires, get_or-replicate 961 n false false l, c.into_iter-ring-iterator.ensures.into_iter_gives);
}

pub loop-ring-preserved : goal.loop-ring-preserved
loop-ring-preserved c =
    let l = c.loop-ring in
    let flipped = flipped_cells c.in-Some.ring.now l.cells l.invariant.size c.flip_ring.ensures in
    record { size = flipped.count; left = λ n h. rw (flipped.is n h) (rw c.in-Some.ensures.steps at l.invariant.left n h) }
