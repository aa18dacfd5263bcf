-- `physical::near_segments::residual` is `residual` of the specs, call by call. Whichever way the test goes, t is
-- `along`.
use mathlib.Core.Path.{◌≡◌, ◌∙◌}
use mathlib.Core.Bool.{cond}
use lib.Ieee.{binary64, div, lt}
use Rattle.leaves.specs.Constants.{plus_zero}
use Rattle.space.specs.Vectors.{dot_of}
use Rattle.physical.specs.Space.{delta, along, residual}
use Rattle.physical.proofs.near_segments.residual.Goals as goal
use Rattle.physical.proofs.near_segments.residual.Goals.{then-length, else-length}

pub returns : goal.returns
unfolding residual delta along
returns c =
    let share-is : c.if-length.share ≡ cond (lt plus_zero c.dot-length.result) (div binary64 (dot_of c.minus-from.result c.minus-d.result) c.dot-length.result) plus_zero = elim c.if-length.branch [ then-length w ↦ w.share-is ∙ rw (w.if-length.true, w.dot.ensures) | else-length w ↦ w.share-is ∙ rw w.if-length.false ] in
    let along-is : c.clamp-t.result ≡ along c.args.p c.args.s = rw (c.clamp-t.ensures, share-is, c.dot-length.ensures, c.minus-from.ensures, c.minus-d.ensures) in
    rw (c.left-3.ensures, c.left-2.ensures, c.left.ensures, along-is, c.minus-from.ensures, c.minus-d.ensures)
