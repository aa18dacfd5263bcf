use mathlib.Core.Path.{◌≡◌}
use mathlib.Core.List.{◌++◌}
use Prim.Native.Nat.{◌≤◌}
use lib.ListN.{take, drop}
use Rattle.round_fallback.specs.Cylinder.{kept_after, kept_of}
use Rattle.round_fallback.proofs.cylinder.keep.Given as goal

abbrev pub invariant-loop-k : goal.invariant-loop-k
invariant-loop-k l = (l.count ≤ l.k) × (take l.count l.sorted ++ kept_after l.last (drop l.k l.sorted) ≡ kept_of l.initial.sorted)
