use mathlib.Core.Path.{◌≡◌}
use lib.ListN.{take}
use Rattle.std.specs.List.{fold}
use Rattle.points.specs.Bounds.{with_point}
use Rattle.points.proofs.Axes.{empty_box}
use Rattle.points.proofs.bounds.box_of.Given as goal

abbrev pub invariant-loop-p : goal.invariant-loop-p
invariant-loop-p l = l.found ≡ fold with_point empty_box (take l.p-index l.points)
