-- What a segment adds in a column: in column i + 1 it is held against one copy of the column's u, and a point gains
-- what the definition's step gives there.
use mathlib.Core.Path.{◌≡◌, refl}
use Prim.Native.Nat.{ℕ, ◌+◌, ◌*◌, ◌/◌, ◌%◌, ◌<◌}
use native.Mathlib.Omega.{arith}
use lib.Ieee.{Float, binary64, add, sub}
use Rattle.points.specs.Segments.{gained, middle, Segment}
use Rattle.coverage.specs.Coverage.{step, step_of}
use Rattle.points.specs.Grid.{part, grid_point}
use Rattle.inside.specs.Lines.{by_columns}
use Rattle.points.specs.Turns.{turns}

module _ (period : Float) (s : Segment) where
  -- the copy of u
  abbrev pub copy_of : Float → Float
  copy_of u = add binary64 u (turns (sub binary64 (middle s.a.u (gained period s)) u) period)

  step_by_place : (k : ℕ) → step_of period (by_columns k) s ≡ step (part (k % 31 + 1)) s.a.u s.a.v (gained period s) s.b.v (copy_of (part (k / 31 + 1)))
  unfolding step_of by_columns grid_point
  step_by_place k = refl

  pub step_in_column : (i m : ℕ) → m < 31 → step_of period (by_columns (31 * i + m)) s ≡ step (part (m + 1)) s.a.u s.a.v (gained period s) s.b.v (copy_of (part (i + 1)))
  step_in_column i m h =
      let e : (31 * i + m) / 31 ≡ i = omega arith in
      let f : (31 * i + m) % 31 ≡ m = omega arith in
      rw (step_by_place (31 * i + m), e, f)
