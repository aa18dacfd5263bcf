-- `points::bounds::box_of` is the box of the points, one by one.
use Rattle.std.proofs.Common.{refl, ap, ◌∙◌, arith}
use lib.Ieee.{neg, of_bits}
use Rattle.std.proofs.lemmas.List.{take_all}
use Rattle.std.specs.List.{fold}
use Rattle.points.specs.Bounds.{with_point}
use Rattle.points.proofs.Axes.{empty_box, box_found}
use Rattle.points.proofs.bounds.box_of.Goals as goal

pub loop-p-init : goal.loop-p-init
unfolding neg of_bits
loop-p-init c = refl

pub returns : goal.returns
returns c = c.loop-p.invariant ∙ ap (fold with_point empty_box) (take_all c.loop-p.p-index c.args.points.now (omega arith)) ∙ box_found c.args.points.now
