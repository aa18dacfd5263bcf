use mathlib.Core.Path.{◌≡◌}
use mathlib.Core.Bool.{false, xor}
use Prim.Native.Nat.{ℕ, ◌<◌}
use lib.ListN.{length, get_or, drop}
use Rattle.inside.specs.Inside.{inside_from, inside_of}
use Rattle.inside.specs.Lines.{by_rows}
use Rattle.inside.proofs.lines.flip_cells.Given as goal

abbrev pub invariant-loop-point : goal.invariant-loop-point
invariant-loop-point l = record {
  size : length l.cells ≡ 961;
  left : (n : ℕ) → n < 961 → inside_from (by_rows n) (get_or l.cells n false) l.b.point (drop l.point-index l.ring) ≡ xor (get_or l.initial.cells n false) (inside_of l.ring (by_rows n));
}
