-- `coverage::covering::cover` marks the front of a list that has room for the grid, by the winding where the chart is
-- periodic, and nowhere else.
use mathlib.Core.Path.{◌∙◌}
use mathlib.Core.Bool.{Bool}
use mathlib.Core.List.{List}
use Prim.Native.Nat.{ℕ}
use native.Mathlib.Omega.{arith}
use lib.ListN.{take, length-take}
use Rattle.sheet.specs.Content.{Point}
use Rattle.points.specs.Grid.{grid_point}
use Rattle.inside.proofs.Cells.{grid_front, grid_short}
use Rattle.frame.specs.Parts.{rings_from, rings_in}
use Rattle.frame.specs.declared.framing.Frame.{Frame}
use Rattle.coverage.specs.Coverage.{covered}
use Rattle.coverage.proofs.covering.cover.Goals as goal

abbrev marks : Frame → ℕ → List ℕ → List Point → ℕ → ℕ → Bool
marks f sense ends points i j = covered f sense (rings_from 0 (take 256 ends) (take 2176 points)) (grid_point i j)

pub returns-in_default : goal.returns-in_default
returns-in_default c =
    let x = c.args in
    grid_short (marks x.f x.sense x.rings.ends.now x.rings.points.now) x.covered.now c.in_default.ensures.cases

pub cover_by_winding-requires : goal.cover_by_winding-requires
cover_by_winding-requires c =
    let looked = c.looked_at-rings.ensures in
    rw (looked.0, looked.1) (c.if-periodic.true, simp length-take (omega arith), simp length-take (omega arith))

pub returns-then-periodic : goal.returns-then-periodic
unfolding rings_in
returns-then-periodic c =
    let x = c.args in
    let looked = c.looked_at-rings.ensures in
    grid_front (marks x.f x.sense x.rings.ends.now x.rings.points.now) x.covered.now c.in-Some.ensures.cases (c.cover_by_winding.ensures ∙ rw (looked.0, looked.1))

pub returns-else-periodic : goal.returns-else-periodic
unfolding rings_in
returns-else-periodic c =
    let x = c.args in
    let looked = c.looked_at-rings.ensures in
    grid_front (marks x.f x.sense x.rings.ends.now x.rings.points.now) x.covered.now c.in-Some.ensures.cases (c.cover_by_inside.ensures ∙ rw (looked.0, looked.1))
