use Rattle.points.proofs.InPlace.{Written}
use Rattle.points.proofs.ring.read_coedge.Given as goal

abbrev pub invariant-loop-k : goal.invariant-loop-k
invariant-loop-k l = Written l.initial.points l.points l.k-iterator.count l.k-iterator.iter l.fn.coedge.points
