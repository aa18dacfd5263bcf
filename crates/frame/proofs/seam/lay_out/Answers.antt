-- `frame::seam::lay_out` meets its contract: lists of the sheet's size are laid out by `prepare`, beside the marks, and
-- the frame of the rings in them, with its checks, is the sheet's.
use mathlib.Core.List.{List, flatten, flat_map}
use mathlib.Core.Path.{◌≡◌, sym, ap, ap₂, ◌∙◌}
use mathlib.Core.Bool.{Bool, true, false}
use Prim.Native.Nat.{ℕ}
use lib.ListN.{length}
use Rattle.std.specs.Prelude.{Ok}
use Rattle.answers.specs.Outcome.{first, numbered, status_of}
use Rattle.answers.proofs.Over.{length_front}
use Rattle.sheet.specs.Content.{Point}
use Rattle.sheet.specs.Layout.{kind, sheet_of}
use Rattle.points.specs.Joins.{opens}
use Rattle.frame.specs.Frame.{frame_of, framed, periodic_of, band_of}
use Rattle.frame.specs.Framing.{frame, join_rows, join_checks, moved_rings}
use Rattle.frame.specs.Parts.{ends_from, rings_from, rings_in}
use Rattle.frame.specs.Seam.{fitting}
use Rattle.frame.specs.Stages.{open_marked}
use Rattle.frame.specs.declared.framing.Frame.{Frame}
use Rattle.frame.proofs.LaidOut.{fitting_is, laid_points_lem, laid_ends_lem, unlaid, framed_ready, framed_refused}
use Rattle.frame.proofs.Parting.{rings_are}
use Rattle.frame.proofs.SheetFrame.{sheet_frame, sheet_rows}
use Rattle.frame.proofs.PassedOn.{passed_on}
use Rattle.frame.proofs.seam.lay_out.Goals as goal

-- lists that the sheet's moved rings are laid in
module _ (s : List ℕ) (phase : ℕ) {points : List Point} {marks : List Bool} {ends : List ℕ} (laid : (points ≡ flatten (moved_rings (sheet_of s) phase)) × (marks ≡ flat_map opens (sheet_of s).rings) × (ends ≡ ends_from 0 (moved_rings (sheet_of s) phase))) where
  rings_back : rings_from 0 ends points ≡ moved_rings (sheet_of s) phase
  rings_back = ap₂ (rings_from 0) laid.2 laid.0 ∙ rings_are (moved_rings (sheet_of s) phase)

  -- the frame is the sheet's
  frame_is : (k : ℕ) {f : Frame} → k ≡ kind s → f ≡ framed (periodic_of k (band_of k (rings_from 0 ends points))) (band_of k (rings_from 0 ends points)) points → f ≡ frame (sheet_of s) phase
  unfolding frame_of
  frame_is k e h = rw (rings_back, laid.0, e) at h ∙ sym (sheet_frame s phase)

  -- and so are its checks
  number_is : {n : ℕ} {f : Frame} → f ≡ frame (sheet_of s) phase → n ≡ first (join_rows f (open_marked f marks (rings_from 0 ends points))) → n ≡ first (join_checks (sheet_of s) phase)
  number_is e h = rw (rings_back, laid.1, e) at h ∙ ap first (sym (sheet_rows s phase))

pub returns-then-not-is_fitting : goal.returns-then-not-is_fitting
returns-then-not-is_fitting c = unlaid (sheet_of c.args.s.now) c.args.phase (sym c.is_fitting.ensures ∙ c.if-not-is_fitting.true)

pub slice_bounds-marks_room-end : goal.slice_bounds-marks_room-end
slice_bounds-marks_room-end c = (fitting_is (sheet_of c.args.s.now) _ _ (sym c.is_fitting.ensures ∙ c.if-not-is_fitting.false)).most

pub slice_bounds-marks-end : goal.slice_bounds-marks-end
slice_bounds-marks-end c = sym (length_front _ 2176 false (fitting_is (sheet_of c.args.s.now) _ _ (sym c.is_fitting.ensures ∙ c.if-not-is_fitting.false)).most)

pub prepare-requires : goal.prepare-requires
prepare-requires c =
    let fitted = fitting_is (sheet_of c.args.s.now) (length c.args.points.now) (length c.args.ends.now) (sym c.is_fitting.ensures ∙ c.if-not-is_fitting.false) in
    (fitted.points_are, length_front _ 2176 false fitted.most ∙ fitted.points_are, fitted.ends_are)

pub returns-in_err-check_joins : goal.returns-in_err-check_joins
unfolding numbered status_of rings_in
returns-in_err-check_joins c =
    let s = c.args.s.now in
    let fits : fitting (sheet_of s) (length c.args.points.now) (length c.args.ends.now) ≡ true = sym c.is_fitting.ensures ∙ c.if-not-is_fitting.false in
    let same = frame_is s c.args.phase c.prepare.ensures _ c.kind_of.ensures c.frame_of-frame.ensures in
    let number = number_is s c.args.phase c.prepare.ensures same c.in_err-check_joins.ensures in
    rw (passed_on c.from_residual.ensures.1) (
      framed_refused (sheet_of s) c.args.phase _ fits number,
      c.prepare.ensures.0 ∙ sym (laid_points_lem (sheet_of s) c.args.phase c.args.points.now fits),
      c.prepare.ensures.2 ∙ sym (laid_ends_lem (sheet_of s) c.args.phase c.args.ends.now fits),
    )

pub returns : goal.returns
unfolding numbered status_of rings_in
returns c =
    let s = c.args.s.now in
    let fits : fitting (sheet_of s) (length c.args.points.now) (length c.args.ends.now) ≡ true = sym c.is_fitting.ensures ∙ c.if-not-is_fitting.false in
    let same = frame_is s c.args.phase c.prepare.ensures _ c.kind_of.ensures c.frame_of-frame.ensures in (
      ap Ok same ∙ framed_ready (sheet_of s) c.args.phase fits (sym (number_is s c.args.phase c.prepare.ensures same c.in_ok-check_joins.ensures)),
      c.prepare.ensures.0 ∙ sym (laid_points_lem (sheet_of s) c.args.phase c.args.points.now fits),
      c.prepare.ensures.2 ∙ sym (laid_ends_lem (sheet_of s) c.args.phase c.args.ends.now fits),
    )
