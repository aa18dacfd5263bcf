-- The recorded answer of a call: status, x, y, z, clearance and count, one behind the other.
use Rattle.std.specs.Prelude.{Bool, ◌&&◌, List, ℕ, eqb, Float}
use Rattle.cases.specs.BigEndian.{big}
use Rattle.cases.specs.Places.{shown}

-- s has these numbers
unfoldable pub recorded : List ℕ → ℕ → Float → Float → Float → Float → ℕ → Bool
recorded s status x y z clearance count =
    (eqb (big s 0 4) status && eqb (big s 36 4) count)
    && ((shown x (big s 4 8) && shown y (big s 12 8)) && (shown z (big s 20 8) && shown clearance (big s 28 8)))
