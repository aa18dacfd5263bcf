use mathlib.Core.Path.{◌≡◌}
use mathlib.Core.List.{◌++◌, map}
use lib.ListN.{take, drop}
use Rattle.points.specs.Normalise.{normal}
use Rattle.points.proofs.ring.normalise.Given as goal

abbrev pub invariant-loop-p : goal.invariant-loop-p
invariant-loop-p l = l.points ≡ map (normal l.least.u l.least.v l.scale.u l.scale.v) (take l.p-index l.initial.points) ++ drop l.p-index l.initial.points
