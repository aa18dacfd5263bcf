-- `picker::call::plane_within` meets its contract: its lists have room for the points and for the rings' ends; what is
-- refused on the way to the grid point is the pick's answer; where it is found, 15 and its place on the plane are.
use mathlib.Core.Path.{sym, ap, ap₂, ◌∙◌}
use Rattle.answers.proofs.Over.{length_front}
use Rattle.sheet.specs.Layout.{sheet_of}
use Rattle.frame.specs.Framing.{moved_rings}
use Rattle.frame.specs.Parts.{rings_from}
use Rattle.frame.proofs.LaidOut.{laid_points_lem, laid_ends_lem}
use Rattle.frame.proofs.Parting.{rings_are, rings_in_is}
use Rattle.frame.proofs.PassedOn.{passed_on}
use Rattle.chart.specs.declared.grid_point.Found.{Found}
use Rattle.chart.proofs.Calling.{rings_few, fits_of}
use Rattle.chart.proofs.Finding.{told_refused, told_chosen}
use Rattle.picker.proofs.Calling.{plane_refused, plane_answered}
use Rattle.picker.proofs.call.plane_within.Goals as goal

pub slice_bounds-ends_room-end : goal.slice_bounds-ends_room-end
slice_bounds-ends_room-end g c = rings_few c.args.s.now c.requires.0.reads c.ring_count.ensures

pub slice_bounds-ends-end : goal.slice_bounds-ends-end
slice_bounds-ends-end g c = sym (length_front _ 16 0 (rings_few c.args.s.now c.requires.0.reads c.ring_count.ensures))

pub returns-in_err-found : goal.returns-in_err-found
returns-in_err-found g c =
    let s = c.args.s.now in
    let fit = fits_of s g.row.N _ c.requires.0.reads c.point_count.ensures c.ring_count.ensures c.requires.1 in
    rw (passed_on c.from_residual.ensures.1) (plane_refused c.requires.0 c.from-phase.ensures _ (told_refused _ (sheet_of s) _ _ fit c.find.ensures.0 c.in_err-found.was))

pub returns : goal.returns
returns g c =
    let s = c.args.s.now in
    let z = sheet_of s in
    let fit = fits_of s g.row.N _ c.requires.0.reads c.point_count.ensures c.ring_count.ensures c.requires.1 in
    let t = told_chosen _ z _ _ fit c.find.ensures.0 c.in_ok-found.was in
    let rings = rings_in_is _ ∙ ap₂ (rings_from 0) (c.find.ensures.2 ∙ laid_ends_lem z _ _ fit) (c.find.ensures.1 ∙ laid_points_lem z _ _ fit) ∙ rings_are (moved_rings z _) in
    plane_answered c.requires.0 c.from-phase.ensures c.answer_at.result t.0 (ap (λ (x : Found). x.frame) t.1) (ap (λ (x : Found). x.best) t.1) rings c.point.ensures.0 c.point.ensures.1 c.place_on-p.ensures c.is_plane_close.ensures c.answer_at.ensures
