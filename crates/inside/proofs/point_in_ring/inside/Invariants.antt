use mathlib.Core.Path.{◌≡◌}
use lib.ListN.{drop}
use Rattle.inside.specs.Inside.{inside_from, inside_of}
use Rattle.inside.proofs.point_in_ring.inside.Given as goal

abbrev pub invariant-loop-a : goal.invariant-loop-a
invariant-loop-a l = inside_from l.p l.in_so_far l.b (drop l.a-index l.ring) ≡ inside_of l.ring l.p
