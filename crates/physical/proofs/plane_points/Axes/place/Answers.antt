-- `physical::plane_points::Axes::place` is `on_axes_of`: each coordinate by the contract of `reach`.
use Rattle.physical.specs.Plane.{on_axes}
use Rattle.physical.specs.Stages.{on_axes_of}
use Rattle.physical.proofs.plane_points.Axes.place.Goals as goal

pub returns : goal.returns
unfolding on_axes_of on_axes
returns c = rw (c.reach.ensures, c.reach-2.ensures, c.reach-3.ensures)
