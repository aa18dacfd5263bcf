use lib.ListN.{length, drop}
use Rattle.points.specs.Joins.{first_only}
use Rattle.points.proofs.InPlace.{Written}
use Rattle.points.proofs.ring.mark_coedge.Given as goal

abbrev pub invariant-loop-k : goal.invariant-loop-k
invariant-loop-k l = Written l.initial.marks l.marks l.k (drop l.k (first_only (length l.initial.marks))) (first_only (length l.initial.marks))
