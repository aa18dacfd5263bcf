-- `chart::choice::chosen_over` meets its contract: the rings in the list that is filled are the normalised
-- rings.
use mathlib.Core.Path.{ap, ◌∙◌}
use native.Mathlib.Omega.{arith}
use Rattle.frame.specs.Parts.{rings_in}
use Rattle.chart.specs.Chart.{candidate}
use Rattle.chart.proofs.Normalising.{normal_packed, normal_rings, normal_length, normal_count}
use Rattle.chart.proofs.choice.chosen_over.Goals as goal

pub invariant_of-chosen_from : goal.invariant_of-chosen_from
invariant_of-chosen_from c =
    let x = c.args in
    let long = normal_length x.f x.normal.now x.moved.packed c.requires.0 c.normalise_into.ensures in
    record {
      packed = normal_packed x.f x.normal.now x.moved.packed c.requires.0 c.normalise_into.ensures;
      points_bound = omega (arith, long, x.moved.points_bound);
      ends_bound = x.moved.ends_bound;
    }

pub chosen_from-requires : goal.chosen_from-requires
unfolding rings_in
chosen_from-requires c =
    let x = c.args in
    (omega (arith, normal_count x.f x.normal.now x.moved.packed c.requires.0 c.normalise_into.ensures, c.requires.1), c.requires.2)

pub returns : goal.returns
unfolding rings_in
returns c =
    let x = c.args in
    c.chosen_from.ensures ∙ ap (candidate x.f x.sense) (normal_rings x.f x.normal.now x.moved.packed c.requires.0 c.normalise_into.ensures)
