-- `corners::last_of` is the last that the iterator has to give, or the first where it has none.
use Rattle.std.proofs.Common.{◌≡◌, ◌∙◌, sym, refl}
use Rattle.std.proofs.lemmas.List.{map-id}
use Rattle.std.proofs.lemmas.Iterator.{items_from_drains}
use Rattle.std.proofs.lemmas.Iterator.Consumers.{YieldsList-from_first}
use Rattle.space.specs.declared.vectors.Place.{Place}
use Rattle.space.specs.Places.{places_left}
use Rattle.points.proofs.Ends.{last_is}
use Rattle.vertex_fallback.proofs.corners.last_of.Goals as goal

pub returns : goal.returns
returns c =
    let a = c.args in
    let (xs, (end, (all, yields, none)), last) = c.last.ensures.ran in
    let items : xs ≡ places_left a.rest = sym (map-id xs) ∙ items_from_drains xs (all, yields, λ t. (end, none)) (YieldsList-from_first (λ (p : Place). p) places_left _ refl) in
    rw (c.unwrap_or.ensures, last, items) (last_is a.first (places_left a.rest))
