use mathlib.Core.List.{map}
use Prim.Native.Nat.{◌*◌}
use lib.ListN.{drop}
use Rattle.sheet.specs.Content.{flat}
use Rattle.points.specs.Written.{written_point}
use Rattle.points.proofs.InPlace.{Written}
use Rattle.points.proofs.written.write.Given as goal

abbrev pub invariant-loop-k : goal.invariant-loop-k
invariant-loop-k l = Written l.initial.out l.out (2 * l.k) (flat (map (written_point l.fn.phase) (drop l.k l.points))) (flat (map (written_point l.fn.phase) l.points))
