-- `physical::closeness::any_ring_near` says whether a segment of the images of any ring is near. The invariant: the
-- answer for the images of the rings that are left is that for all, as no ring before has a near one. A turn
-- takes the images of one ring, three numbers a point, and ends the loop where one is near.
use mathlib.Core.Path.{◌≡◌, refl, ap, ◌∙◌}
use mathlib.Core.Bool.{Bool, false}
use mathlib.Core.List.{List, ◌∷◌}
use Prim.Native.Nat.{ℕ, ◌*◌, min}
use lib.Ieee.{Float}
use lib.ListN.{length, take, drop}
use Rattle.std.proofs.Common.{Bor}
use Rattle.std.specs.Iterator.{YieldsFirst}
use Rattle.std.proofs.lemmas.Iterator.Consumers.{YieldsList-from_first}
use Rattle.std.proofs.lemmas.List.{take_min, drop_min}
use Rattle.space.specs.Places.{triples, places_left}
use Rattle.space.specs.declared.vectors.Place.{Place}
use Rattle.sheet.specs.Content.{Coedge, ring_points}
use Rattle.physical.specs.Images.{image_numbers, ring_images}
use Rattle.physical.specs.Stages.{any_near}
use Rattle.physical.proofs.Nearness.{IsAnswer, rings_near, ring_next, ring_found, ring_none}
use Rattle.physical.proofs.closeness.any_ring_near.Goals as goal

-- the images of the next ring, and those of the rings behind it
images_more : {rs rest : List (List Coedge)} {r : List Coedge} (images : List Float) → rs ≡ r ∷ rest
    → ring_images rs images ≡ triples (take (3 * length (ring_points r)) images) ∷ ring_images rest (drop (3 * length (ring_points r)) images)
unfolding ring_images image_numbers
images_more images e = rw e

-- a turn tests the part of the images that is the next ring's
near_more : (limit : Float) (p : Place) {rs rest : List (List Coedge)} {r : List Coedge} (images : List Float) (part : Bor (List Float)) {behind : List Float} {near whole : Bool} (points mid : ℕ) → rs ≡ r ∷ rest → points ≡ length (ring_points r) → mid ≡ min (3 * points) (length images)
    → part.now ≡ take mid images → behind ≡ drop mid images → IsAnswer limit p (YieldsFirst places_left) (record { list = part }) near → rings_near limit p false (ring_images rs images) ≡ whole → rings_near limit p near (ring_images rest behind) ≡ whole
near_more limit p images part points mid e told cut front back n w =
    let own = cut ∙ ap (λ (n : ℕ). min (3 * n) (length images)) told in
    let near = n (triples part.now) (YieldsList-from_first (λ (q : Place). q) places_left _ refl).runs in
    rw (back, own, drop_min) (ring_next limit p (images_more images e) (near ∙ ap (λ (xs : List Float). any_near limit p false (triples xs)) (front ∙ ap (λ (m : ℕ). take m images) own ∙ take_min _ images)) w)

pub loop-ring-init : goal.loop-ring-init
loop-ring-init c =
    let x = c.args in (
      tt,
      tt,
      ap (λ (rs : List (List Coedge)). rings_near x.reach.limit x.p false (ring_images rs x.images.now)) (c.into_iter-ring-iterator.ensures.into_iter_gives ∙ c.rings-ring-items.ensures),
    )

pub returns-then-is_ring_near : goal.returns-then-is_ring_near
returns-then-is_ring_near c =
    let x = c.args in
    ring_found x.reach.limit x.p (ring_images c.next.new.self c.split_at.result.1.now) (near_more x.reach.limit x.p c.loop-ring.rest.now c.split_at.result.0 c.point_count-count.result c.min.result c.in-Some.ensures.steps c.point_count-count.ensures.count c.min.ensures c.split_at.ensures.front c.split_at.ensures.back c.if-is_ring_near.ensures c.loop-ring.invariant.2)

pub loop-ring-preserved : goal.loop-ring-preserved
loop-ring-preserved c =
    let x = c.args in
    (tt, tt, near_more x.reach.limit x.p c.loop-ring.rest.now c.split_at.result.0 c.point_count-count.result c.min.result c.in-Some.ensures.steps c.point_count-count.ensures.count c.min.ensures c.split_at.ensures.front c.split_at.ensures.back c.if-is_ring_near.ensures c.loop-ring.invariant.2)

pub returns : goal.returns
unfolding ring_images
returns c =
    let x = c.args in
    ring_none x.reach.limit x.p (ap (λ (rs : List (List Coedge)). ring_images rs c.loop-ring.rest.now) c.in-None.ensures.steps.0) c.loop-ring.invariant.2
