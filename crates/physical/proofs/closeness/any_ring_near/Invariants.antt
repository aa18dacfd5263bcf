use mathlib.Core.Path.{◌≡◌}
use mathlib.Core.Bool.{false}
use mathlib.Core.List.{foldl}
use Rattle.sheet.specs.Layout.{sheet_of}
use Rattle.physical.specs.Images.{ring_images}
use Rattle.physical.specs.Stages.{any_near}
use Rattle.physical.proofs.closeness.any_ring_near.Given as goal

abbrev pub invariant-loop-ring : goal.invariant-loop-ring
invariant-loop-ring l =
    (goal.iterator-loop-ring).can_next l.ring-iterator
    × (goal.iterator-loop-ring).is_finite l.ring-iterator
    × (foldl (any_near l.reach.limit l.p) false (ring_images l.ring-iterator l.rest) ≡ foldl (any_near l.reach.limit l.p) false (ring_images (sheet_of l.s).rings l.images))
