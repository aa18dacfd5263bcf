use mathlib.Core.Path.{◌≡◌}
use Prim.Native.Nat.{◌-◌, ◌*◌, ◌≤◌}
use Rattle.std.proofs.Common.{Some}
use Rattle.search.specs.Chosen.{chosen_among}
use Rattle.search.specs.Copies.{Ready}
use Rattle.search.proofs.Chosen.{choice_from}
use Rattle.search.proofs.leader.search_periodic.Given as goal

abbrev pub invariant-loop-i : goal.invariant-loop-i
invariant-loop-i l =
    (l.found.best.count ≤ (l.i - 1) * 31) × Ready l.period l.i l.list l.until l.copies × (choice_from (Some l.period) l.list l.covered l.found.best l.i ≡ chosen_among (Some l.period) l.list l.covered)
