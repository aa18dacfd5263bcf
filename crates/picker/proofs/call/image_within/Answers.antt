-- `picker::call::image_within` meets its contract: its lists have room for the points and for the rings' ends; what is
-- refused on the way to the grid point is the pick's answer; where it is found, 15 and the last image are.
use mathlib.Core.Path.{sym, ap}
use native.Mathlib.Omega.{arith}
use Rattle.answers.proofs.Over.{length_front}
use Rattle.sheet.specs.Layout.{sheet_of}
use Rattle.frame.proofs.PassedOn.{passed_on}
use Rattle.chart.specs.declared.grid_point.Found.{Found}
use Rattle.chart.proofs.Calling.{rings_few, fits_of}
use Rattle.chart.proofs.Finding.{told_refused, told_chosen}
use Rattle.picker.proofs.Calling.{image_reads, images_long, image_refused, image_answered}
use Rattle.picker.proofs.call.image_within.Goals as goal

pub slice_bounds-ends_room-end : goal.slice_bounds-ends_room-end
slice_bounds-ends_room-end g c = rings_few c.args.s.now (image_reads c.requires.0) c.ring_count.ensures

pub slice_bounds-ends-end : goal.slice_bounds-ends-end
slice_bounds-ends-end g c = sym (length_front _ 16 0 (rings_few c.args.s.now (image_reads c.requires.0) c.ring_count.ensures))

pub overflow_sub-images : goal.overflow_sub-images
overflow_sub-images g c = omega (arith, images_long c.requires.0)

pub returns-in_err-found : goal.returns-in_err-found
returns-in_err-found g c =
    let s = c.args.s.now in
    let fit = fits_of s g.row.N _ (image_reads c.requires.0) c.point_count.ensures c.ring_count.ensures c.requires.1 in
    rw (passed_on c.from_residual.ensures.1) (image_refused c.requires.0 _ (told_refused _ (sheet_of s) c.args.phase _ fit c.find.ensures.0 c.in_err-found.was))

pub returns : goal.returns
returns g c =
    let s = c.args.s.now in
    let fit = fits_of s g.row.N _ (image_reads c.requires.0) c.point_count.ensures c.ring_count.ensures c.requires.1 in
    let t = told_chosen _ (sheet_of s) c.args.phase _ fit c.find.ensures.0 c.in_ok-found.was in
    image_answered c.requires.0 c.answer_at.result t.0 c.place_at-last.ensures c.too_close.ensures (ap (λ (x : Found). x.best) t.1) c.answer_at.ensures
