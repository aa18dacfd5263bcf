use mathlib.Core.Path.{◌≡◌}
use Prim.Native.Nat.{ℕ, ◌+◌, ◌*◌, ◌≤◌}
use lib.IntN.{ℤ, pos, ◌+ℤ◌}
use lib.Ieee.{Float}
use Rattle.points.specs.Segments.{Segment, middle}
use Rattle.inside.specs.Lines.{by_columns}
use Rattle.inside.proofs.Cells.{Changed}
use Rattle.coverage.specs.Coverage.{step_of}
use Rattle.coverage.proofs.winding.add_segment.Given as goal

-- the cell in place k with what the segment adds
abbrev pub plus : Float → Segment → ℕ → ℤ → ℤ
plus period s k n = n +ℤ step_of period (by_columns k) s

abbrev pub invariant-loop-i : goal.invariant-loop-i
invariant-loop-i l = record {
  added : Changed (pos 0) 961 (plus l.period l.fn.s) l.initial.cells (31 * l.i) l.cells;
  same_period : l.turns.period ≡ l.period;
  same_mid : l.turns.mid ≡ middle l.moved.a.u l.moved.b.u;
  at_hand : l.turns.from ≤ l.i + 1;
}
