-- `physical::plane_closeness::any_plane_ring_near` says whether a segment between the images of any ring's points is
-- near.
use Rattle.std.proofs.Common.{rules, List}
use mathlib.Core.Path.{sym, ◌∙◌}
use mathlib.Core.Bool.{false}
use mathlib.Core.List.{map}
use Rattle.std.proofs.lemmas.Iterator.Consumers.{YieldsList-from_first}
use Rattle.std.proofs.lemmas.Iterator.Search.{any_from_yields_List}
use Rattle.sheet.specs.Content.{Point}
use Rattle.frame.specs.Parts.{rings_in, rings_left}
use Rattle.physical.specs.Stages.{any_near, image_of}
use Rattle.physical.proofs.Nearness.{rings_any}
use Rattle.physical.proofs.plane_closeness.any_plane_ring_near.Goals as goal

pub returns : goal.returns
returns c =
    let x = c.args in
    any_from_yields_List (λ (ring : List Point). any_near x.reach.limit x.p false (map (image_of x.axes) ring)) _ _ c.any.result c.any.ensures.ran (YieldsList-from_first (λ ring. ring.now) rings_left _ c.into_iter.ensures.into_iter_gives) (λ y b q k. search rules)
    ∙ sym (rings_any x.reach.limit x.p (map (image_of x.axes)) (rings_in x.rings))
