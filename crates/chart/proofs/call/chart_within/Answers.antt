-- `chart::call::chart_within` meets its contract: its lists have room for the points and for the rings' ends; what is
-- refused on the way to the grid point is the answer; where it is found, the points are written and it is answered in
-- the chart.
use mathlib.Core.Path.{sym, ap, ◌∙◌}
use Rattle.answers.proofs.Over.{length_front}
use Rattle.sheet.specs.Layout.{sheet_of}
use Rattle.frame.proofs.LaidOut.{laid_points_lem}
use Rattle.frame.proofs.PassedOn.{passed_on}
use Rattle.chart.specs.declared.grid_point.Found.{Found}
use Rattle.chart.proofs.Calling.{reads_of, rings_few, fits_of, call_refused, call_answered}
use Rattle.chart.proofs.Finding.{told_refused, told_chosen}
use Rattle.chart.proofs.call.chart_within.Goals as goal

pub slice_bounds-ends_room-end : goal.slice_bounds-ends_room-end
slice_bounds-ends_room-end g c = rings_few c.args.s.now (reads_of c.args.s.now c.args.phase c.requires.0.passes) c.ring_count.ensures

pub slice_bounds-ends-end : goal.slice_bounds-ends-end
slice_bounds-ends-end g c = sym (length_front _ 16 0 (rings_few c.args.s.now (reads_of c.args.s.now c.args.phase c.requires.0.passes) c.ring_count.ensures))

pub returns-in_err-found : goal.returns-in_err-found
returns-in_err-found g c =
    let s = c.args.s.now in
    let fit = fits_of s g.row.N _ (reads_of s c.args.phase c.requires.0.passes) c.point_count.ensures c.ring_count.ensures c.requires.1 in
    rw (passed_on c.from_residual.ensures.1) (call_refused c.requires.0 _ (told_refused _ (sheet_of s) c.args.phase _ fit c.find.ensures.0 c.in_err-found.was))

pub returns : goal.returns
returns g c =
    let s = c.args.s.now in
    let fit = fits_of s g.row.N _ (reads_of s c.args.phase c.requires.0.passes) c.point_count.ensures c.ring_count.ensures c.requires.1 in
    let t = told_chosen _ (sheet_of s) c.args.phase _ fit c.find.ensures.0 c.in_ok-found.was in
    call_answered c.requires.0 t.0 c.values.result (c.find.ensures.1 ∙ laid_points_lem (sheet_of s) c.args.phase _ fit) c.write.ensures (ap (λ (x : Found). x.frame) t.1) (ap (λ (x : Found). x.best) t.1) c.values.ensures
