-- `coverage::ring_grid::inside_grid` gives 1 inside the ring and 0 outside, in the grid's order: the grid point in
-- place k of it stands in place `in_rows k` of the rows, where the ring flips a cell that says no.
use mathlib.Core.Path.{◌≡◌, refl, ◌∙◌}
use mathlib.Core.Bool.{Bool, true, false, cond, xor}
use native.Mathlib.Omega.{arith}
use lib.IntN.{pos}
use lib.ListN.{replicate, length-replicate, get_or-replicate}
use Rattle.points.specs.Grid.{grid_point}
use Rattle.inside.specs.Inside.{inside_of}
use Rattle.inside.specs.Lines.{by_columns, in_rows}
use Rattle.inside.proofs.Cells.{all_grid, flipped_cells}
use Rattle.coverage.proofs.Parity.{same_point}
use Rattle.coverage.proofs.ring_grid.inside_grid.Goals as goal

flipped_no : (t : Bool) → xor false t ≡ t
unfolding xor
flipped_no true = refl
flipped_no false = refl

pub returns : goal.returns
unfolding by_columns
returns c =
    let ring = c.args.ring.now in
    let flipped = flipped_cells ring (replicate 961 false) (length-replicate 961 false) c.flip_ring.ensures in
    let counts = c.from_rows.ensures in
    all_grid (pos 0) _ (λ i j. cond (inside_of ring (grid_point i j)) (pos 1) (pos 0)) (record {
      count = counts.count;
      is = λ k h. counts.is k h ∙ rw (flipped.is (in_rows k) (omega arith), get_or-replicate 961 (in_rows k) false false (omega arith), flipped_no, same_point k h);
    })
