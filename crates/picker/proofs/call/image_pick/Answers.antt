-- `picker::call::image_pick` meets its contract: the checks 1 to 8, then 10, by the contracts of what makes them; then
-- the pick in lists by size.
use mathlib.Core.Path.{sym, ◌∙◌}
use native.Mathlib.Omega.{arith}
use Rattle.answers.proofs.Papers.{status_ok, status_err}
use Rattle.frame.proofs.SheetFrame.{points_most}
use Rattle.frame.proofs.PassedOn.{passed_on}
use Rattle.chart.proofs.Calling.{reads_of}
use Rattle.picker.proofs.Calling.{image_unread, image_wrong}
use Rattle.picker.proofs.call.image_pick.Goals as goal

pub returns-in_err-check : goal.returns-in_err-check
returns-in_err-check c =
    rw (passed_on c.from_residual.ensures.1) (image_unread c.args.s.now c.args.phase c.args.images.now _ (sym (status_err _ _) ∙ c.in_err-check.ensures))

pub images_wrong-requires : goal.images_wrong-requires
images_wrong-requires c = points_most c.args.s.now (reads_of c.args.s.now c.args.phase (sym c.in_ok-check.ensures ∙ status_ok _))

pub returns-then-images_wrong : goal.returns-then-images_wrong
returns-then-images_wrong c = image_wrong c.args.s.now c.args.phase c.args.images.now (sym c.in_ok-check.ensures ∙ status_ok _) (sym c.images_wrong.ensures ∙ c.if-images_wrong.true)

pub image_within-requires : goal.image_within-requires
image_within-requires c =
    (record { passes = sym c.in_ok-check.ensures ∙ status_ok _; images_right = sym c.images_wrong.ensures ∙ c.if-images_wrong.false }, omega (arith, c.point_count.ensures, c.if-point_count-le-SMALL_POINTS.true), omega arith)

pub image_within-requires-else-point_count-le-SMALL_POINTS : goal.image_within-requires-else-point_count-le-SMALL_POINTS
image_within-requires-else-point_count-le-SMALL_POINTS c =
    let most = points_most c.args.s.now (reads_of c.args.s.now c.args.phase (sym c.in_ok-check.ensures ∙ status_ok _)) in
    (record { passes = sym c.in_ok-check.ensures ∙ status_ok _; images_right = sym c.images_wrong.ensures ∙ c.if-images_wrong.false }, most, omega arith)
