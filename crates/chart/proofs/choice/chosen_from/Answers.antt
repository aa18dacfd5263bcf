-- `chart::choice::chosen_from` chooses the candidate: the marks are those of all rings, the list has the segments of
-- all rings in its front, and the search from both is the definition's.
use mathlib.Core.Path.{refl, ap, ◌∙◌}
use native.Mathlib.Omega.{arith}
use lib.Ieee.{Float}
use lib.ListN.{take}
use Rattle.std.specs.Prelude.{Option}
use Rattle.clearance.specs.SegmentLists.{laid_rings}
use Rattle.search.specs.Chosen.{chosen_among}
use Rattle.frame.specs.Parts.{rings_in}
use Rattle.chart.proofs.Choosing.{marked, chosen_from}
use Rattle.chart.proofs.choice.chosen_from.Goals as goal

pub returns : goal.returns
unfolding rings_in
returns c =
    let x = c.args in
    let r = c.lay_rings-n in
    let marks = c.cover.new.covered in
    c.choose.ensures
    ∙ ap (λ (p : Option Float). chosen_among p (take 2176 (take r.result r.new.list)) marks) c.period_of-2.ensures
    ∙ chosen_from x.f x.sense (rings_in x.normalised.rings) r.new.list r.result 2176 marks (omega (arith, r.ensures.0, c.requires.1)) (r.ensures.1 ∙ ap (λ (p : Option Float). laid_rings p (rings_in x.normalised.rings)) c.period_of.ensures)
    (marked x.f x.sense x.normalised.rings.ends.now x.normalised.rings.points.now _ _ x.normalised.ends_bound x.normalised.points_bound refl c.cover.ensures)
