use mathlib.Core.Path.{◌≡◌}
use mathlib.Core.Bool.{false, cond}
use lib.ListN.{get_or}
use Rattle.inside.specs.Lines.{in_rows}
use Rattle.inside.proofs.Cells.{Changed}
use Rattle.coverage.proofs.marks.from_rows.Given as goal

abbrev pub invariant-loop-value : goal.invariant-loop-value
invariant-loop-value g l =
    (l.at ≡ in_rows l.value-index) × Changed l.no 961 (λ k _. cond (get_or l.cells (in_rows k) false) l.yes l.no) l.initial.values l.value-index l.values
