use Rattle.std.proofs.Common.{◌≡◌}
use Rattle.sheet.specs.Layout.{coedge_parts}
use Rattle.sheet.specs.Checks.{first_fault, coedge_fault}
use Rattle.sheet.proofs.fault.block_fault.Given as goal

abbrev pub invariant-loop-part : goal.invariant-loop-part
invariant-loop-part l =
    (goal.iterator-loop-part).can_next l.part-iterator
    × (goal.iterator-loop-part).is_finite l.part-iterator
    × (first_fault (coedge_fault l.version) l.part-iterator ≡ first_fault (coedge_fault l.version) (coedge_parts l.version l.block))
