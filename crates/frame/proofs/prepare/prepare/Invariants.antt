use Prim.Native.Nat.{◌+◌, ◌≤◌}
use lib.ListN.{length}
use Rattle.sheet.specs.Layout.{sheet_of}
use Rattle.frame.proofs.Preparing.{Prepared}
use Rattle.frame.proofs.prepare.prepare.Given as goal

abbrev pub invariant-loop-k : goal.invariant-loop-k
invariant-loop-k l =
    (goal.iterator-loop-k).can_next l.k-iterator
    × (goal.iterator-loop-k).is_finite l.k-iterator
    × (l.k-iterator.count + length l.k-iterator.iter ≤ 255)
    × Prepared l.kind l.phase l.initial.points l.initial.marks l.initial.ends (sheet_of l.s).rings l.points l.marks l.ends l.from l.k-iterator.count l.k-iterator.iter
