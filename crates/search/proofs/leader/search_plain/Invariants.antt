use mathlib.Core.Path.{◌≡◌}
use Prim.Native.Nat.{◌-◌, ◌*◌, ◌≤◌}
use Rattle.std.proofs.Common.{None}
use Rattle.search.specs.Chosen.{chosen_among}
use Rattle.search.proofs.Chosen.{choice_from}
use Rattle.search.proofs.leader.search_plain.Given as goal

abbrev pub invariant-loop-i : goal.invariant-loop-i
invariant-loop-i l =
    (l.found.best.count ≤ (l.i - 1) * 31) × (choice_from None l.list l.covered l.found.best l.i ≡ chosen_among None l.list l.covered)
