use mathlib.Core.Path.{◌≡◌}
use mathlib.Core.Bool.{Bool, false, xor}
use mathlib.Core.List.{List, foldl}
use Prim.Native.Nat.{ℕ, ◌<◌}
use lib.ListN.{length, get_or}
use Rattle.sheet.specs.Content.{Point}
use Rattle.inside.specs.Inside.{inside_of}
use Rattle.inside.specs.Lines.{by_rows}
use Rattle.frame.specs.Parts.{rings_in, rings_left}
use Rattle.coverage.proofs.covering.flip_rings.Given as goal

-- the cell in place n after one ring more
abbrev pub flip : ℕ → Bool → List Point → Bool
flip n t ring = xor t (inside_of ring (by_rows n))

abbrev pub invariant-loop-ring : goal.invariant-loop-ring
invariant-loop-ring l = record {
  size : length l.cells ≡ 961;
  left : (n : ℕ) → n < 961 → foldl (flip n) (get_or l.cells n false) (rings_left l.ring-iterator) ≡ foldl (flip n) false (rings_in l.fn.rings);
}
