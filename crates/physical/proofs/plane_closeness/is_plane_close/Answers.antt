-- `physical::plane_closeness::is_plane_close` says whether check 15 fails, by the images on the sheet's plane. A limit
-- below infinity is reached where a segment is near; no clearance is above any other limit.
use mathlib.Core.Path.{◌≡◌, ap, ◌∙◌}
use mathlib.Core.Bool.{Bool, false}
use mathlib.Core.List.{List, map}
use lib.Ieee.{Float, inf, lt}
use lib.ListN.{drop}
use Rattle.space.specs.declared.vectors.Place.{Place}
use Rattle.sheet.specs.Content.{Point}
use Rattle.sheet.specs.Layout.{numbers, sheet_of}
use Rattle.frame.specs.Parts.{rings_in}
use Rattle.physical.specs.Plane.{plane_images_of}
use Rattle.physical.specs.Stages.{axes_of, image_of}
use Rattle.physical.specs.declared.plane_points.Axes.{Axes}
use Rattle.physical.proofs.Nearness.{rings_near}
use Rattle.physical.proofs.PlaneNumbers.{images_on_plane}
use Rattle.physical.proofs.Threshold.{close_within, close_always, passable, impassable}
use Rattle.physical.proofs.plane_closeness.is_plane_close.Goals as goal

-- the images on the axes that were read are those on the plane
on_plane_lem : (limit : Float) (p : Place) (plane : List Float) (rings : List (List Point)) {axes : Axes} {near : Bool} → axes ≡ axes_of plane → near ≡ rings_near limit p false (map (map (image_of axes)) rings) → near ≡ rings_near limit p false (plane_images_of plane rings)
on_plane_lem limit p plane rings e n =
    n ∙ ap (λ (a : Axes). rings_near limit p false (map (map (image_of a)) rings)) e ∙ ap (rings_near limit p false) (images_on_plane plane rings)

pub returns-in-Some : goal.returns-in-Some
returns-in-Some c =
    let x = c.args in
    let plane = numbers 9 (drop 8 x.s.now) in
    let rings = rings_in x.rings in
    close_within (sheet_of x.s.now) x.p (plane_images_of plane rings) (c.in-Some.ensures.some ∙ c.least_clearance.ensures) (ap (λ (l : Float). lt l (inf false)) c.in-Some.ensures.some ∙ passable _ c.in-Some.ensures.none)
    (on_plane_lem c.in-Some.reach.limit x.p plane rings c.of-in-Some.ensures c.any_plane_ring_near.ensures)

pub returns-in-None : goal.returns-in-None
returns-in-None c =
    let x = c.args in
    close_always (sheet_of x.s.now) x.p (plane_images_of (numbers 9 (drop 8 x.s.now)) (rings_in x.rings)) c.least_clearance.ensures (impassable _ c.in-None.ensures.none)
