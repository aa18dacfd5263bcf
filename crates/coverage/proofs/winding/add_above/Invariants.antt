use mathlib.Core.Bool.{cond}
use Prim.Native.Nat.{ℕ, ◌+◌}
use lib.IntN.{ℤ, pos, ◌+ℤ◌}
use lib.Ieee.{lt}
use Rattle.points.specs.Grid.{part}
use Rattle.inside.proofs.Cells.{Changed}
use Rattle.coverage.proofs.winding.add_above.Given as goal

abbrev pub invariant-loop-m : goal.invariant-loop-m
invariant-loop-m l =
    Changed (pos 0) 31 (λ (m : ℕ) (n : ℤ). n +ℤ cond (lt l.threshold (part (m + 1))) l.by (pos 0)) l.initial.column l.m l.column
