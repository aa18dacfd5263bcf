-- What the theorems on the round fallback's sort say: of numbers, that they are in order.
use Rattle.std.specs.Prelude.{◌≡◌, false, not, T, List, [], ◌∷◌, Float}
use Rattle.std.specs.List.{AllByRecursion}
use Rattle.std.specs.Float.{binary64}
use Rattle.std.specs.Float.Ieee.{fits, is_nan}
use Rattle.round_fallback.specs.Cylinder.{precedes}

-- a value of the format that is no NaN
abbrev pub Numeric : Float → Type 0
Numeric x = T (fits binary64 x) × T (not (is_nan x))

-- none precedes any of those before it: of each number, none of those after it precedes it
abbrev pub Ordered : List Float → Type 0
Ordered [] = Unit {0}
Ordered (x ∷ xs) = AllByRecursion (λ (y : Float). precedes y x ≡ false) xs × Ordered xs
