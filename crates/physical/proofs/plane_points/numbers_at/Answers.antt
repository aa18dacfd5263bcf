-- `physical::plane_points::numbers_at` meets its contract: the three numbers stand eight bytes apart.
use mathlib.Core.Path.{sym}
use Rattle.physical.proofs.PlaneNumbers.{first_place}
use Rattle.physical.proofs.plane_points.numbers_at.Goals as goal

pub returns : goal.returns
returns c =
    let a = c.args in
    rw (c.number.ensures, c.number-2.ensures, c.number-3.ensures) (sym (first_place a.s.now a.at))
