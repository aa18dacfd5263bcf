use mathlib.Core.List.{map}
use lib.ListN.{drop}
use Rattle.points.specs.Unroll.{wrapped, follow}
use Rattle.points.proofs.InPlace.{Written}
use Rattle.points.proofs.ring.unroll.Given as goal

abbrev pub invariant-loop-p : goal.invariant-loop-p
invariant-loop-p l = Written l.initial.rest l.rest l.p-index (follow l.kind l.previous (map (wrapped l.fn.phase) (drop l.p-index l.initial.rest))) (follow l.kind l.initial.previous (map (wrapped l.fn.phase) l.initial.rest))
