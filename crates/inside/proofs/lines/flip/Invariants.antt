use mathlib.Core.Bool.{Bool, false, not}
use Prim.Native.Nat.{ℕ}
use lib.ListN.{length}
use Rattle.inside.proofs.Cells.{Changed}
use Rattle.inside.proofs.lines.flip.Given as goal

abbrev pub invariant-loop-cell : goal.invariant-loop-cell
invariant-loop-cell l =
    let old = l.initial.cell-items in
    Changed false (length old) (λ (m : ℕ) (a : Bool). not a) old l.cell-index l.cell-items
