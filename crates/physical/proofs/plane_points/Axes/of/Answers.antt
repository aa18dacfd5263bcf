-- `physical::plane_points::Axes::of` meets its contract: each of its three places is three of the plane's nine numbers.
use mathlib.Core.Path.{refl, ◌∙◌}
use native.Mathlib.Omega.{arith}
use Rattle.physical.specs.Stages.{axes_of}
use Rattle.physical.proofs.PlaneNumbers.{place_among}
use Rattle.physical.proofs.plane_points.Axes.of.Goals as goal

pub returns : goal.returns
unfolding axes_of
returns c =
    let s = c.args.s.now in
    let u_axis_lem = c.numbers_at-u_axis.ensures ∙ place_among s 3 32 (omega arith) refl in
    rw (c.cross.ensures, c.numbers_at-2.ensures, c.numbers_at.ensures, u_axis_lem, place_among s 0 8 (omega arith) refl, place_among s 6 56 (omega arith) refl)
