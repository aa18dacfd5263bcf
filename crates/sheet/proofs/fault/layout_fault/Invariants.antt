use Rattle.std.proofs.Common.{◌≡◌, ◌+◌, length}
use mathlib.Core.List.{flatten}
use Rattle.sheet.specs.Layout.{version, head, blocks}
use Rattle.sheet.specs.Checks.{first_fault, block_fault}
use Rattle.sheet.proofs.Walks.{faults}
use Rattle.sheet.proofs.fault.layout_fault.Given as goal

abbrev pub invariant-loop-block : goal.invariant-loop-block
invariant-loop-block l =
    (goal.iterator-loop-block).can_next l.block-iterator
    × (goal.iterator-loop-block).is_finite l.block-iterator
    × (l.filled + length (flatten l.block-iterator) ≡ length (head l.s) + length (flatten (blocks l.s)))
    × (first_fault (block_fault (version l.s)) l.block-iterator ≡ faults l.s)
