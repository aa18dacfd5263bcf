use mathlib.Core.Path.{◌≡◌}
use mathlib.Core.Bool.{false}
use lib.Ieee.{inf}
use lib.ListN.{drop}
use Rattle.clearance.specs.Nearest.{least_key}
use Rattle.clearance.proofs.nearest.Asked.scan.Given as goal

abbrev pub invariant-loop-k : goal.invariant-loop-k
invariant-loop-k l = least_key l.self.p l.least (drop l.k l.self.list.now) ≡ least_key l.self.p (inf false) l.self.list.now
