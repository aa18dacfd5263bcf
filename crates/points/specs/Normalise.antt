-- Document 01, "Chart", rule 5: "Normalise: (coordinate − least)/scale".
use Rattle.std.specs.Prelude.{Float}
use Rattle.std.specs.Float.{binary64}
use Rattle.std.specs.Float.Ieee.{sub, div}
use Rattle.sheet.specs.Content.{Point, point}

unfoldable pub normal : Float → Float → Float → Float → Point → Point
unfolding sub div
normal least_u least_v scale_u scale_v p = point (div binary64 (sub binary64 p.u least_u) scale_u) (div binary64 (sub binary64 p.v least_v) scale_v)
