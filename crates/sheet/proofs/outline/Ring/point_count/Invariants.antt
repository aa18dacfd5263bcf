use Rattle.std.proofs.Common.{◌≡◌, ◌≤◌, ◌+◌, ◌*◌, length}
use Rattle.sheet.specs.Content.{ring_points}
use Rattle.sheet.proofs.outline.Ring.point_count.Given as goal

abbrev pub invariant-loop-coedge : goal.invariant-loop-coedge
invariant-loop-coedge l =
    (goal.iterator-loop-coedge).can_next l.coedge-iterator
    × (goal.iterator-loop-coedge).is_finite l.coedge-iterator
    × (l.count + 255 * length l.coedge-iterator ≤ 65025)
    × (l.count + length (ring_points l.coedge-iterator) ≡ length (ring_points l.self))
