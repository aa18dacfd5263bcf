-- `physical::deviation::least_clearance` is `physical_least`, by the greatest deviation.
use mathlib.Core.Path.{sym, ap₂, ◌∙◌}
use lib.Ieee.{Float, binary64, mul}
use Rattle.leaves.specs.Bounds.{larger_of}
use Rattle.leaves.proofs.ConstantBits.{physical_limit_bits}
use Rattle.physical.specs.Physical.{eight, physical_least}
use Rattle.physical.proofs.deviation.least_clearance.Goals as goal

pub returns : goal.returns
unfolding physical_least
returns c = c.larger_of.ensures ∙ ap₂ (λ (d l : Float). larger_of (mul binary64 d eight) l) c.greatest_deviation.ensures (sym physical_limit_bits)
