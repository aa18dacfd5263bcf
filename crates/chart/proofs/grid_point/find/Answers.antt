-- `chart::grid_point::find` meets its contract: what the seam refuses is the answer; behind it the lists hold the
-- sheet's moved rings, the candidate of their normalised ones is the chosen grid point, and row 14 holds
-- its clearance against the limit.
use mathlib.Core.List.{List, flatten}
use Prim.Native.Nat.{ℕ}
use mathlib.Core.Path.{◌≡◌, sym, ap, ap₂, ◌∙◌}
use mathlib.Core.Bool.{Bool, true}
use native.Mathlib.Omega.{arith}
use lib.ListN.{length}
use Rattle.std.specs.Prelude.{Ok}
use Rattle.answers.specs.Outcome.{numbered}
use Rattle.sheet.specs.Content.{Point, Sheet}
use Rattle.frame.specs.declared.framing.Frame.{Frame}
use Rattle.search.specs.declared.candidate.Candidate.{Candidate}
use Rattle.sheet.specs.Layout.{sheet_of}
use Rattle.sheet.proofs.Planes.{sheet_sense}
use Rattle.frame.specs.Framing.{moved_rings, frame}
use Rattle.frame.specs.Parts.{ends_from, rings_from, rings_in}
use Rattle.frame.specs.Seam.{fitting, laid_points, laid_ends}
use Rattle.sheet.proofs.Checked.{ring_number}
use Rattle.frame.proofs.LaidOut.{fitting_is, laid_points_lem, laid_ends_lem, told_ready, told_refused, passed_fits}
use Rattle.frame.proofs.Parting.{packed, rings_are}
use Rattle.frame.proofs.PassedOn.{passed_on}
use Rattle.chart.specs.Chart.{candidate, chosen, normalised_by}
use Rattle.chart.specs.Found.{found}
use Rattle.chart.proofs.AnyOrder.{chosen_in}
use Rattle.chart.proofs.Finding.{above_limit, found_refused, found_14, found_chosen}
use Rattle.chart.proofs.grid_point.find.Goals as goal

-- lists of the sheet's size hold its moved rings
record Held (z : Sheet) (phase : ℕ) (points : List Point) (ends : List ℕ) : Type 0 where
  points_are : points ≡ flatten (moved_rings z phase)
  ends_are : ends ≡ ends_from 0 (moved_rings z phase)

held : (z : Sheet) (phase : ℕ) (before : List Point) (was : List ℕ) {fits : Bool} {points : List Point} {ends : List ℕ} → fits ≡ true → points ≡ laid_points fits z phase before → ends ≡ laid_ends fits z phase was → Held z phase points ends
held z phase before was fit e g = record { points_are = e ∙ laid_points_lem z phase before fit; ends_are = g ∙ laid_ends_lem z phase was fit }

-- and the candidate of their rings is the sheet's
best : (z : Sheet) (phase : ℕ) {points : List Point} {ends : List ℕ} {f : Frame} {sense : ℕ} {c : Candidate} → Held z phase points ends → f ≡ frame z phase → sense ≡ z.sense →
    c ≡ candidate f sense (normalised_by f (rings_from 0 ends points)) → c ≡ chosen z phase
best z phase h e g k =
    k
    ∙ (λ i. candidate (e i) (g i) (normalised_by (e i) ((ap₂ (rings_from 0) h.ends_are h.points_are ∙ rings_are (moved_rings z phase)) i)))
    ∙ sym (chosen_in z phase)

pub invariant_of-chosen : goal.invariant_of-chosen
invariant_of-chosen c =
    let z = sheet_of c.args.s.now in
    let fits = fitting z (length c.args.points.now) (length c.args.ends.now) in
    let ready = told_ready z c.args.phase fits _ c.lay_out.ensures.0 c.in_ok-frame.was in
    let laid = held z c.args.phase c.args.points.now c.args.ends.now (passed_fits z c.args.phase fits ready.0) c.lay_out.ensures.1 c.lay_out.ensures.2 in
    let size = fitting_is z (length c.args.points.now) (length c.args.ends.now) (passed_fits z c.args.phase fits ready.0) in
    let kept = c.lay_out.auto in
    record {
      packed = rw (laid.points_are, laid.ends_are) (packed _);
      points_bound = omega (arith, kept.points, size.most);
      ends_bound = omega (arith, kept.ends, size.ends_are, ring_number c.args.s.now, c.type_inv.s 7);
    }

pub returns-in_err-frame : goal.returns-in_err-frame
unfolding numbered
returns-in_err-frame c =
    let z = sheet_of c.args.s.now in
    let phase = c.args.phase in
    let b = fitting z (length c.args.points.now) (length c.args.ends.now) in
    rw (passed_on c.from_residual.ensures.1) (found_refused b z phase _ (told_refused z phase b _ c.lay_out.ensures.0 c.in_err-frame.was), c.lay_out.ensures.1, c.lay_out.ensures.2)

pub returns-then-best : goal.returns-then-best
unfolding numbered rings_in
returns-then-best c =
    let z = sheet_of c.args.s.now in
    let fits = fitting z (length c.args.points.now) (length c.args.ends.now) in
    let ready = told_ready z c.args.phase fits _ c.lay_out.ensures.0 c.in_ok-frame.was in
    let laid = held z c.args.phase c.args.points.now c.args.ends.now (passed_fits z c.args.phase fits ready.0) c.lay_out.ensures.1 c.lay_out.ensures.2 in
    let best-is : c.chosen-best.result ≡ chosen z c.args.phase = best z c.args.phase laid ready.1 (c.sense_of.ensures ∙ sym (sheet_sense c.args.s.now)) c.chosen-best.ensures in
    (ap Ok (ap₂ found ready.1 best-is) ∙ found_chosen fits z c.args.phase ready.0 (above_limit best-is c.if-best.true), c.lay_out.ensures.1, c.lay_out.ensures.2)

pub returns-else-best : goal.returns-else-best
unfolding numbered rings_in
returns-else-best c =
    let z = sheet_of c.args.s.now in
    let fits = fitting z (length c.args.points.now) (length c.args.ends.now) in
    let ready = told_ready z c.args.phase fits _ c.lay_out.ensures.0 c.in_ok-frame.was in
    let laid = held z c.args.phase c.args.points.now c.args.ends.now (passed_fits z c.args.phase fits ready.0) c.lay_out.ensures.1 c.lay_out.ensures.2 in
    let best-is : c.chosen-best.result ≡ chosen z c.args.phase = best z c.args.phase laid ready.1 (c.sense_of.ensures ∙ sym (sheet_sense c.args.s.now)) c.chosen-best.ensures in
    (found_14 fits z c.args.phase ready.0 (above_limit best-is c.if-best.false), c.lay_out.ensures.1, c.lay_out.ensures.2)
