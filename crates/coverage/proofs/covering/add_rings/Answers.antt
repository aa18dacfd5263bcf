-- `coverage::covering::add_rings` adds up the windings of all rings at every grid point. The invariant, at every grid
-- point: the windings of the rings that are left, added to the cell, give the whole sum; and the cell and the points of
-- those rings are together so few that no sum overflows, since a ring's winding is at most its count of points.
use native.Mathlib.Omega.{arith}
use lib.IntN.{pos}
use lib.ListN.{get_or-replicate}
use Rattle.std.proofs.lemmas.Int.{ints}
use Rattle.inside.specs.Lines.{by_columns}
use Rattle.frame.specs.Parts.{rings_in}
use Rattle.coverage.proofs.RingSums.{points_few}
use Rattle.coverage.proofs.Windings.{winding_small}
use Rattle.coverage.proofs.covering.add_rings.Goals as goal

pub loop-ring-init : goal.loop-ring-init
unfolding rings_in
loop-ring-init c =
    let rings = c.args.rings in
    let few = c.requires.1 in
    record {
      size = c.told-cells;
      small = λ n l. rw (c.requires.2, get_or-replicate 961 n (pos 0) (pos 0) l, c.into_iter-ring-iterator.ensures.into_iter_gives) (omega (arith, points_few 0 rings.ends.now rings.points.now 2176 c.requires.0));
      left = λ n l. rw (c.requires.2, get_or-replicate 961 n (pos 0) (pos 0) l, c.into_iter-ring-iterator.ensures.into_iter_gives);
    }

pub loop-ring-preserved : goal.loop-ring-preserved
loop-ring-preserved c =
    let l = c.loop-ring in
    let ring = c.in-Some.ring.now in
    let sums = c.add_ring.ensures in
    record {
      size = sums.count;
      small = λ n h. rw (sums.is n h) (omega (arith, ints, rw c.in-Some.ensures.steps at l.invariant.small n h, winding_small c.args.period (by_columns n) ring));
      left = λ n h. rw (sums.is n h) (rw c.in-Some.ensures.steps at l.invariant.left n h);
    }
