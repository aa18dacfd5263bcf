-- `coverage::covering::cover_by_inside` marks what the flips cover, in the grid's order: the grid point in place k of
-- it stands in place `in_rows k` of the rows.
use mathlib.Core.Path.{◌∙◌}
use mathlib.Core.Bool.{false}
use native.Mathlib.Omega.{arith}
use Rattle.points.specs.Grid.{grid_point}
use Rattle.inside.specs.Lines.{by_columns, in_rows}
use Rattle.inside.proofs.Cells.{all_grid}
use Rattle.frame.specs.Parts.{rings_in}
use Rattle.coverage.specs.Coverage.{covered}
use Rattle.coverage.proofs.Parity.{same_point, covered_inside}
use Rattle.coverage.proofs.covering.cover_by_inside.Goals as goal

pub returns : goal.returns
unfolding by_columns
returns c =
    let f = c.args.f in
    let rings = rings_in c.args.rings in
    let marks = c.mark_flips.ensures in
    all_grid false _ (λ i j. covered f c.args.sense rings (grid_point i j)) (record {
      count = marks.count;
      is = λ k h. marks.is k h ∙ rw (c.flip_rings.ensures.is (in_rows k) (omega arith), same_point k h) (covered_inside f c.args.sense rings (by_columns k) c.requires);
    })
