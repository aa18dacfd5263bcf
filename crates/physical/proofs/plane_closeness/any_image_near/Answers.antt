-- `physical::plane_closeness::any_image_near` is `any_near` of the images of the ring's points, which its iterator
-- gives.
use Rattle.std.proofs.Common.{rules}
use Rattle.std.proofs.lemmas.Iterator.{YieldsList-from_map, YieldsList-from_slice}
use Rattle.std.proofs.lemmas.Iterator.Consumers.{YieldsList-at}
use Rattle.physical.specs.Stages.{image_of}
use Rattle.physical.proofs.plane_closeness.any_image_near.Goals as goal

pub returns : goal.returns
returns c =
    c.is_ring_near.ensures _ (YieldsList-from_map _ (image_of c.args.axes) (YieldsList-at c.map.ensures.source (YieldsList-from_slice _ c.iter.ensures.rest)) c.map.ensures.closure (λ x r q k. search rules)).runs
