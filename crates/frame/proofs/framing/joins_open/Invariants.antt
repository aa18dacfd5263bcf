use mathlib.Core.Path.{◌≡◌}
use Rattle.frame.specs.Parts.{rings_in, rings_left}
use Rattle.frame.specs.Stages.{open_marked}
use Rattle.frame.proofs.framing.joins_open.Given as goal

abbrev pub invariant-loop-ring : goal.invariant-loop-ring
invariant-loop-ring l = open_marked l.frame l.left (rings_left l.ring-iterator) ≡ open_marked l.frame l.fn.marks (rings_in l.fn.rings)
