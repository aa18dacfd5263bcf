-- `coverage::covering::cover_by_winding` marks what the sums of the windings cover, in the grid's order.
use mathlib.Core.Path.{◌∙◌}
use mathlib.Core.Bool.{false}
use Rattle.points.specs.Grid.{grid_point}
use Rattle.inside.specs.Lines.{by_columns}
use Rattle.inside.proofs.Cells.{all_grid}
use Rattle.frame.specs.Parts.{rings_in}
use Rattle.coverage.specs.Coverage.{covered}
use Rattle.coverage.proofs.Parity.{covered_winding}
use Rattle.coverage.proofs.covering.cover_by_winding.Goals as goal

pub returns : goal.returns
unfolding by_columns
returns c =
    let f = c.args.f in
    let rings = rings_in c.args.rings in
    let marks = c.mark_windings.ensures in
    all_grid false _ (λ i j. covered f c.args.sense rings (grid_point i j)) (record {
      count = marks.count;
      is = λ k h. marks.is k h ∙ rw (c.add_rings.ensures.is k h) (covered_winding f c.args.sense rings (by_columns k) c.requires.0);
    })
