use mathlib.Core.Path.{◌≡◌}
use mathlib.Core.List.{List, foldl}
use Prim.Native.Nat.{ℕ, ◌+◌, ◌*◌, ◌≤◌, ◌<◌}
use lib.IntN.{ℤ, pos, nat_abs, ◌+ℤ◌}
use lib.Ieee.{Float}
use lib.ListN.{length, get_or}
use Rattle.sheet.specs.Content.{Point}
use Rattle.inside.specs.Lines.{by_columns}
use Rattle.frame.specs.Parts.{rings_in, rings_left}
use Rattle.coverage.specs.Coverage.{winding_of}
use Rattle.coverage.proofs.RingSums.{points_together}
use Rattle.coverage.proofs.covering.add_rings.Given as goal

-- a sum at the grid point in place n with one ring more
abbrev pub wind : Float → ℕ → ℤ → List Point → ℤ
wind period n m ring = m +ℤ winding_of period (by_columns n) ring

abbrev pub invariant-loop-ring : goal.invariant-loop-ring
invariant-loop-ring l = record {
  size : length l.cells ≡ 961;
  small : (n : ℕ) → n < 961 → nat_abs (get_or l.cells n (pos 0)) + points_together (rings_left l.ring-iterator) ≤ 2176 * 256;
  left : (n : ℕ) → n < 961 → foldl (wind l.period n) (get_or l.cells n (pos 0)) (rings_left l.ring-iterator) ≡ foldl (wind l.period n) (pos 0) (rings_in l.fn.rings);
}
