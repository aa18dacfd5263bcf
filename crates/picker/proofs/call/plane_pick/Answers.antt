-- `picker::call::plane_pick` meets its contract: the checks 1 to 7, then the kind, by the contracts of what makes them;
-- then the pick in lists by size.
use mathlib.Core.Path.{sym, ◌∙◌}
use native.Mathlib.Omega.{arith}
use borrow.Author.Tests.{eq-eqb, eqb-true}
use Rattle.std.proofs.Common.{T}
use mathlib.Core.Path.{subst}
use Rattle.answers.proofs.Papers.{status_ok, status_err}
use Rattle.frame.proofs.SheetFrame.{points_most}
use Rattle.frame.proofs.PassedOn.{passed_on}
use Rattle.picker.proofs.Calling.{plane_unread, plane_wrong_kind, planar}
use Rattle.picker.proofs.call.plane_pick.Goals as goal

pub returns-in_err-check : goal.returns-in_err-check
returns-in_err-check c =
    rw (passed_on c.from_residual.ensures.1) (plane_unread c.args.s.now _ (sym (status_err _ _) ∙ c.in_err-check.ensures))

pub returns-then-not-is_plane : goal.returns-then-not-is_plane
returns-then-not-is_plane c = plane_wrong_kind c.args.s.now (sym c.in_ok-check.ensures ∙ status_ok _) (λ e. subst T (sym (eq-eqb _ _ (c.kind_of-kind.ensures ∙ e)) ∙ sym c.is_plane.ensures ∙ c.if-not-is_plane.true) tt)

pub plane_within-requires : goal.plane_within-requires
plane_within-requires c =
    (planar c.args.s.now (sym c.in_ok-check.ensures ∙ status_ok _) (sym c.kind_of-kind.ensures ∙ eqb-true _ _ (sym c.is_plane.ensures ∙ c.if-not-is_plane.false)), omega (arith, c.point_count.ensures, c.if-point_count-le-SMALL_POINTS.true), omega arith)

pub plane_within-requires-else-point_count-le-SMALL_POINTS : goal.plane_within-requires-else-point_count-le-SMALL_POINTS
plane_within-requires-else-point_count-le-SMALL_POINTS c =
    let reads = sym c.in_ok-check.ensures ∙ status_ok _ in
    (planar c.args.s.now reads (sym c.kind_of-kind.ensures ∙ eqb-true _ _ (sym c.is_plane.ensures ∙ c.if-not-is_plane.false)), points_most c.args.s.now reads, omega arith)
