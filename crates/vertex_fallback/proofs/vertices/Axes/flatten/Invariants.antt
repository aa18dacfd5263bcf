use mathlib.Core.List.{map}
use Rattle.space.specs.Places.{triples}
use Rattle.points.proofs.InPlace.{Written}
use Rattle.space.specs.Places.{places_left}
use Rattle.vertex_fallback.specs.Vertices.{flattened}
use Rattle.vertex_fallback.proofs.vertices.Axes.flatten.Given as goal

abbrev pub invariant-loop-p : goal.invariant-loop-p
invariant-loop-p l = Written l.initial.ring l.ring l.p-index (map (flattened l.self.u l.self.v) (places_left l.places)) (map (flattened l.self.u l.self.v) (triples l.corners))
