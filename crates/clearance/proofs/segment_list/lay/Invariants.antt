use mathlib.Core.List.{map}
use Rattle.std.specs.Iterator.Adapters.{enumerate_source, enumerate_count}
use Rattle.points.specs.Segments.{segments, segments_left}
use Rattle.points.proofs.InPlace.{Written}
use Rattle.clearance.specs.Clearance.{laid}
use Rattle.clearance.proofs.segment_list.lay.Given as goal

abbrev pub invariant-loop-k : goal.invariant-loop-k
invariant-loop-k l = Written l.initial.list l.list (enumerate_count l.k-iterator) (map (laid l.period) (segments_left (enumerate_source l.k-iterator))) (map (laid l.period) (segments l.ring))
