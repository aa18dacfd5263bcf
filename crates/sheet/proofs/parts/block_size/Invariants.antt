use Rattle.std.proofs.Common.{◌≡◌, ◌+◌, length}
use mathlib.Core.List.{flatten}
use Rattle.sheet.specs.Layout.{block_size}
use Rattle.sheet.proofs.parts.block_size.Given as goal

abbrev pub invariant-loop-part : goal.invariant-loop-part
invariant-loop-part l =
    (goal.iterator-loop-part).can_next l.part-iterator
    × (goal.iterator-loop-part).is_finite l.part-iterator
    × (l.size + length (flatten l.part-iterator) ≡ block_size l.version l.s)
