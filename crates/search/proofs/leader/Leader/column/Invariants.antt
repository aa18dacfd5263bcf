use mathlib.Core.Path.{◌≡◌}
use Prim.Native.Nat.{◌+◌, ◌-◌, ◌≤◌}
use Rattle.search.specs.Chosen.{covered_at, clear_to}
use Rattle.search.proofs.Visits.{column_from}
use Rattle.search.proofs.leader.Leader.column.Given as goal

abbrev pub invariant-loop-j : goal.invariant-loop-j
invariant-loop-j l =
    (l.found.best.count ≤ l.initial.found.best.count + (l.j - 1)) × (column_from (covered_at l.covered) (clear_to l.list) l.i l.found.best l.j ≡ column_from (covered_at l.covered) (clear_to l.list) l.i l.initial.found.best 1)
