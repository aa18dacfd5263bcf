use mathlib.Core.List.{map}
use lib.ListN.{drop}
use Rattle.leaves.specs.Wrap.{rem_tau}
use Rattle.points.proofs.InPlace.{Written}
use Rattle.round_fallback.proofs.cylinder.reduce.Given as goal

abbrev pub invariant-loop-k : goal.invariant-loop-k
invariant-loop-k l = Written l.initial.turned l.turned l.k (map rem_tau (drop l.k l.angles)) (map rem_tau l.angles)
