use mathlib.Core.List.{flatten}
use Prim.Native.Nat.{◌+◌, ◌≤◌}
use lib.ListN.{length}
use Rattle.frame.specs.Parts.{rings_in, rings_left}
use Rattle.clearance.specs.SegmentLists.{laid_rings}
use Rattle.chart.proofs.Choosing.{Laid}
use Rattle.chart.proofs.choice.lay_rings.Given as goal

abbrev pub invariant-loop-ring : goal.invariant-loop-ring
invariant-loop-ring l = record {
  room : l.at + length (flatten (rings_left l.ring-iterator)) ≤ length l.list;
  laid : Laid l.period (laid_rings l.period (rings_in l.rings)) l.list l.list l.at (rings_left l.ring-iterator);
}
