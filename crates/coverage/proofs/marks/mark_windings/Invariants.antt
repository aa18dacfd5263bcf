use mathlib.Core.Bool.{Bool, false}
use Prim.Native.Nat.{ℕ}
use lib.IntN.{pos}
use lib.ListN.{get_or}
use Rattle.inside.proofs.Cells.{Changed}
use Rattle.coverage.specs.Coverage.{covered_by}
use Rattle.coverage.proofs.marks.mark_windings.Given as goal

abbrev pub invariant-loop-k : goal.invariant-loop-k
invariant-loop-k l =
    Changed false 961 (λ (k : ℕ) (t : Bool). covered_by l.band l.sense (get_or l.sums k (pos 0))) l.initial.covered l.k l.covered
