-- Document 01, row 15: "picks: physical clearance not above larger-of(8 × greatest deviation, 1e-7)".
use Rattle.std.specs.Prelude.{Bool, not, Float}
use mathlib.Core.List.{List, foldl}
use Rattle.std.specs.Float.{binary64}
use Rattle.std.specs.Float.Ieee.{of_bits, mul, lt}
use Rattle.leaves.specs.Bounds.{larger_of}
use Rattle.leaves.specs.Constants.{plus_zero, physical_limit}
use Rattle.space.specs.declared.vectors.Place.{Place}
use Rattle.sheet.specs.Content.{Coedge, Sheet}
use Rattle.physical.specs.Space.{physical_clearance}

-- the larger of `so far` and the deviations of a ring's coedges
unfoldable pub deviates : Float → List Coedge → Float
deviates so_far ring = foldl (λ (d : Float) (c : Coedge). larger_of d c.deviation) so_far ring

unfoldable pub greatest_deviation : List (List Coedge) → Float
unfolding deviates
greatest_deviation rings = foldl deviates plus_zero rings

abbrev pub eight : Float
eight = of_bits binary64 0x4020000000000000

unfoldable pub physical_least : List (List Coedge) → Float
unfolding mul greatest_deviation
physical_least rings = larger_of (mul binary64 (greatest_deviation rings) eight) physical_limit

-- 15, of a point and the images of all rings
unfoldable pub too_close : Sheet → Place → List (List Place) → Bool
unfolding lt physical_least physical_clearance
too_close s p images = not (lt (physical_least s.rings) (physical_clearance p images))
