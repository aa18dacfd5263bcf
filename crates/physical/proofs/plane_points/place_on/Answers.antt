-- `physical::plane_points::place_on` is `on_plane`, on the axes of the plane's nine numbers.
use Rattle.physical.proofs.PlaneNumbers.{on_plane_lem}
use Rattle.physical.proofs.plane_points.place_on.Goals as goal

pub returns : goal.returns
returns c = rw (c.place.ensures, c.of.ensures) (on_plane_lem _ _)
