use Prim.Native.Nat.{ℕ, ◌≤◌, ◌<◌}
use lib.ListN.{get_or}
use Rattle.search.specs.Copies.{Ready}
use Rattle.search.proofs.copies.renew.Given as goal

abbrev pub invariant-loop-k : goal.invariant-loop-k
invariant-loop-k l = Ready l.period l.i l.list l.until l.copies × ((j : ℕ) → j < l.k → l.i ≤ get_or l.until j 0)
