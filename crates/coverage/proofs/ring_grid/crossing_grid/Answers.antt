-- `coverage::ring_grid::crossing_grid` writes the crossings over the front of a list that has room for them: the
-- winding on a periodic chart, else `inside`. The search finds what the call wrote.
use mathlib.Core.Bool.{Bool}
use mathlib.Core.List.{List}
use Prim.Native.Nat.{ℕ}
use borrow.Author.Rules.{rules}
use lib.IntN.{ℤ}
use lib.Ieee.{Float}
use Rattle.sheet.specs.Content.{Point}
use Rattle.points.specs.Grid.{grid_point}
use Rattle.inside.proofs.Cells.{grid_front, grid_short}
use Rattle.coverage.specs.Coverage.{crossing}
use Rattle.coverage.proofs.ring_grid.crossing_grid.Goals as goal

abbrev numbers : Bool → Float → List Point → ℕ → ℕ → ℤ
numbers periodic period ring i j = crossing periodic period (grid_point i j) ring

pub returns-in_default : goal.returns-in_default
returns-in_default c =
    let x = c.args in
    grid_short (numbers x.periodic x.period x.ring.now) x.crossings.now c.in_default.ensures.cases

pub returns-then-periodic : goal.returns-then-periodic
unfolding crossing
returns-then-periodic c =
    let x = c.args in
    grid_front (numbers x.periodic x.period x.ring.now) x.crossings.now c.in-Some.ensures.cases (rw c.if-periodic.true (search rules))

pub returns-else-periodic : goal.returns-else-periodic
unfolding crossing
returns-else-periodic c =
    let x = c.args in
    grid_front (numbers x.periodic x.period x.ring.now) x.crossings.now c.in-Some.ensures.cases (rw c.if-periodic.false (search rules))
