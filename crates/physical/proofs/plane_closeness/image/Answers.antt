-- `physical::plane_closeness::image` is `image_of` the point: the phase's angle is taken from v, as when the point is
-- written.
use Rattle.points.proofs.Flat.{written_is}
use Rattle.physical.specs.Stages.{image_of}
use Rattle.physical.proofs.plane_closeness.image.Goals as goal

pub returns : goal.returns
unfolding image_of
returns c = rw (written_is, c.place.ensures, c.phase_angle.ensures, c.from.ensures)
