use Rattle.std.proofs.Common.{◌≡◌, ◌∷◌, [], drop}
use Rattle.std.specs.List.{find}
use Rattle.points.specs.Columns.{further, columns_ahead}
use Rattle.points.proofs.columns.column_ahead.Given as goal

-- what is found of the columns that are left is what is found of all
abbrev pub invariant-loop-step : goal.invariant-loop-step
invariant-loop-step g l =
    find (g.T.ColumnTest.holds l.test) (further l.i (drop l.step-index (l.last ∷ 16 ∷ 8 ∷ 4 ∷ 2 ∷ 1 ∷ []))) ≡ find (g.T.ColumnTest.holds l.test) (columns_ahead l.i)
