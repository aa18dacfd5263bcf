-- `chart::call::chart` meets its contract: the checks 1 to 8, then 9, by the contracts of what makes them; then the
-- call in lists by size.
use mathlib.Core.Path.{sym}
use native.Mathlib.Omega.{arith}
use Rattle.answers.specs.Outcome.{status_of}
use Rattle.frame.proofs.SheetFrame.{points_most}
use Rattle.frame.proofs.PassedOn.{passed_on}
use Rattle.chart.proofs.Calling.{call_unread, call_no_room, call_passes, reads_of}
use Rattle.chart.proofs.call.chart.Goals as goal

pub returns-in_err-check : goal.returns-in_err-check
unfolding status_of
returns-in_err-check c =
    rw (passed_on c.from_residual.ensures.1) (call_unread c.args.s.now c.args.phase c.args.points.now _ c.in_err-check.ensures)

pub returns-then-points-n : goal.returns-then-points-n
unfolding status_of
returns-then-points-n c = call_no_room c.args.s.now c.args.phase c.args.points.now (sym c.in_ok-check.ensures) (omega (arith, c.point_count-n.ensures, c.if-points-n.true))

pub chart_within-requires : goal.chart_within-requires
unfolding status_of
chart_within-requires c =
    (call_passes c.args.s.now c.args.phase c.args.points.now (sym c.in_ok-check.ensures) (omega (arith, c.point_count-n.ensures, c.if-points-n.false)), omega (arith, c.point_count-n.ensures, c.if-n-le-SMALL_POINTS.true), omega arith)

pub chart_within-requires-else-n-le-SMALL_POINTS : goal.chart_within-requires-else-n-le-SMALL_POINTS
unfolding status_of
chart_within-requires-else-n-le-SMALL_POINTS c =
    let passes = sym c.in_ok-check.ensures in
    let most = points_most c.args.s.now (reads_of c.args.s.now c.args.phase passes) in
    (call_passes c.args.s.now c.args.phase c.args.points.now passes (omega (arith, c.point_count-n.ensures, c.if-points-n.false)), most, omega arith)

pub overflow_mul-n : goal.overflow_mul-n
unfolding status_of
overflow_mul-n c = omega (arith, c.point_count-n.ensures, points_most c.args.s.now (reads_of c.args.s.now c.args.phase (sym c.in_ok-check.ensures)))
