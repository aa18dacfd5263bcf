-- `search::leader::Leader::nobody` is the start of the search: clearance 0 is the hypotenuse of the key 0.
use Rattle.std.proofs.Common.{sym}
use Rattle.leaves.proofs.Hypotenuses.{zero_key, hypot_of_zero}
use Rattle.search.proofs.leader.Leader.nobody.Goals as goal

pub invariant_of-result : goal.invariant_of-result
invariant_of-result c = record { is_key = zero_key; clearance_is = sym hypot_of_zero }
