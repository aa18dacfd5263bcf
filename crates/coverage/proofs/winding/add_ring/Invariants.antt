use mathlib.Core.Path.{◌≡◌}
use mathlib.Core.List.{foldl}
use Prim.Native.Nat.{ℕ, ◌+◌, ◌≤◌, ◌<◌}
use lib.IntN.{pos, nat_abs, ◌+ℤ◌}
use lib.ListN.{length, get_or}
use Rattle.points.specs.Segments.{segments_left}
use Rattle.inside.specs.Lines.{by_columns}
use Rattle.coverage.specs.Coverage.{winding_of}
use Rattle.coverage.proofs.Windings.{wind_step}
use Rattle.coverage.proofs.winding.add_ring.Given as goal

abbrev pub invariant-loop-s : goal.invariant-loop-s
invariant-loop-s l = record {
  size : length l.cells ≡ 961;
  small : (n : ℕ) → n < 961 → nat_abs (get_or l.cells n (pos 0)) + length (segments_left l.s-iterator) ≤ nat_abs (get_or l.initial.cells n (pos 0)) + length l.ring;
  left : (n : ℕ) → n < 961 → foldl (wind_step l.period (by_columns n)) (get_or l.cells n (pos 0)) (segments_left l.s-iterator) ≡ get_or l.initial.cells n (pos 0) +ℤ winding_of l.period (by_columns n) l.ring;
}
