-- What holds of every key (Hypot.antt) and of the start of a least or a greatest: a value without a sign, or a NaN.
-- Functions that hand a key on promise it; no definition names it.
use Rattle.std.specs.Prelude.{◌≡◌, Bool, false, T, Float}
use Rattle.std.specs.Float.{nan, inf, fin, binary64}
use Rattle.std.specs.Float.Ieee.{fits}

-- whether the sign is set, and false for a NaN
abbrev pub sign : Float → Bool
sign nan = false
sign (inf s) = s
sign (fin s m e) = s

pub record Key (k : Float) : Type 0 where
  pub held : T (fits binary64 k)
  pub unsigned : sign k ≡ false
