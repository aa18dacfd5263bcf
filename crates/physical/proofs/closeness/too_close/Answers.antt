-- `physical::closeness::too_close` says whether check 15 fails. A limit below infinity is reached where a segment is
-- near; no clearance is above any other limit.
use mathlib.Core.Path.{ap, ◌∙◌}
use mathlib.Core.Bool.{false}
use lib.Ieee.{Float, inf, lt}
use Rattle.sheet.specs.Layout.{sheet_of}
use Rattle.physical.specs.Images.{ring_images}
use Rattle.physical.proofs.Threshold.{close_within, close_always, passable, impassable}
use Rattle.physical.proofs.closeness.too_close.Goals as goal

pub returns-in-Some : goal.returns-in-Some
returns-in-Some c =
    let x = c.args in
    let s = sheet_of x.s.now in
    close_within s x.p (ring_images s.rings x.images.now) (c.in-Some.ensures.some ∙ c.least_clearance.ensures) (ap (λ (l : Float). lt l (inf false)) c.in-Some.ensures.some ∙ passable _ c.in-Some.ensures.none) c.any_ring_near.ensures

pub returns-in-None : goal.returns-in-None
returns-in-None c =
    let x = c.args in
    let s = sheet_of x.s.now in
    close_always s x.p (ring_images s.rings x.images.now) c.least_clearance.ensures (impassable _ c.in-None.ensures.none)
