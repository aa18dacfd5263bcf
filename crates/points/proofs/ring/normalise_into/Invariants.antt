use mathlib.Core.List.{map}
use lib.ListN.{drop}
use Rattle.points.specs.Normalise.{normal}
use Rattle.points.proofs.InPlace.{Written}
use Rattle.points.proofs.ring.normalise_into.Given as goal

abbrev pub invariant-loop-k : goal.invariant-loop-k
invariant-loop-k l = Written l.initial.out l.out l.k (map (normal l.least.u l.least.v l.scale.u l.scale.v) (drop l.k l.points)) (map (normal l.least.u l.least.v l.scale.u l.scale.v) l.points)
