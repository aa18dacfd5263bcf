use Rattle.std.proofs.Common.{◌≡◌, ◌*◌, ◌+◌, ◌≤◌, length}
use Rattle.sheet.specs.Layout.{sheet_of}
use Rattle.sheet.specs.Checks.{coedges_wrong}
use Rattle.sheet.proofs.Walks.{wrong_from}
use Rattle.sheet.proofs.walk.coedges_wrong.Given as goal

abbrev pub invariant-loop-ring : goal.invariant-loop-ring
invariant-loop-ring l =
    (goal.iterator-loop-ring).can_next l.ring-iterator
    × (goal.iterator-loop-ring).is_finite l.ring-iterator
    × (l.total + 255 * length l.ring-iterator ≤ 65025)
    × (wrong_from l.total l.ring-iterator ≡ coedges_wrong (sheet_of l.s).rings)
