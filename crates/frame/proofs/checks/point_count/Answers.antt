-- `frame::checks::point_count` counts the points of all rings, of which there are few.
use Rattle.std.proofs.Common.{rules, ◌∙◌, arith}
use Rattle.std.proofs.lemmas.Iterator.{YieldsList-from_map}
use Rattle.std.proofs.lemmas.Iterator.Adapters.{fits_from_length, at_most_from_yields_List}
use Rattle.std.proofs.lemmas.Iterator.Consumers.{YieldsList-from_first, YieldsList-at, sum_by_from_yields_List}
use Rattle.sheet.specs.Layout.{sheet_of}
use Rattle.sheet.proofs.Checked.{ring_number}
use Rattle.frame.proofs.Counting.{own_points, points_summed}
use Rattle.frame.proofs.checks.point_count.Goals as goal

pub sum-requires-clause-fits : goal.sum-requires-clause-fits
sum-requires-clause-fits c =
    let seventh = c.type_inv.s 7 in
    fits_from_length _ _ 255 _ (at_most_from_yields_List (YieldsList-at c.map.ensures.source (YieldsList-from_first (λ ring. ring) (λ rest. rest) _ c.rings.ensures)) (omega (arith, ring_number c.args.s.now))) c.map.ensures.closure (omega arith) (λ x r q k. search rules)

pub returns : goal.returns
returns c =
    sum_by_from_yields_List own_points (sheet_of c.args.s.now).rings c.map.result c.sum.result c.sum.ensures.ran (YieldsList-from_map _ own_points (YieldsList-at c.map.ensures.source (YieldsList-from_first (λ ring. ring) (λ rest. rest) _ c.rings.ensures)) c.map.ensures.closure (λ x r q k. search rules))
    ∙ points_summed (sheet_of c.args.s.now)
