-- `coverage::ring_grid::winding_grid` adds the ring's winding to zeros, in the grid's order.
use mathlib.Core.Path.{◌∙◌}
use lib.IntN.{pos, +ℤ_idl}
use lib.ListN.{get_or-replicate}
use Rattle.points.specs.Grid.{grid_point}
use Rattle.inside.specs.Lines.{by_columns}
use Rattle.inside.proofs.Cells.{all_grid}
use Rattle.coverage.specs.Coverage.{winding_of}
use Rattle.coverage.proofs.ring_grid.winding_grid.Goals as goal

pub returns : goal.returns
unfolding by_columns
returns c =
    let x = c.args in
    let sums = c.add_ring.ensures in
    all_grid (pos 0) _ (λ i j. winding_of x.period (grid_point i j) x.ring.now) (record {
      count = sums.count;
      is = λ k h. sums.is k h ∙ rw (c.clear.ensures, c.told-crossings, get_or-replicate 961 k (pos 0) (pos 0) h) (+ℤ_idl _);
    })
