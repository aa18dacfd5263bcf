use mathlib.Core.Bool.{false}
use Prim.Native.Nat.{◌*◌}
use Rattle.inside.proofs.Cells.{Changed}
use Rattle.inside.proofs.Flips.{after}
use Rattle.inside.proofs.lines.flip_rows.Given as goal

abbrev pub invariant-loop-j : goal.invariant-loop-j
invariant-loop-j l = Changed false 961 (after l.edge.a l.edge.b) l.initial.cells (31 * l.j) l.cells
