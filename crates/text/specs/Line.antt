-- Document 01, "prints status, x, y, z, clearance (f64 bits, 16 hexadecimal digits) and count (decimal); a refusal
-- prints its number only".
use Rattle.std.specs.Prelude.{List, [], ◌∷◌, ◌++◌, ℕ, Float}
use Rattle.std.specs.Float.{binary64}
use Rattle.std.specs.Float.Ieee.{to_bits}
use Rattle.text.specs.Digits.{hexadecimal, decimal}

abbrev pub space : ℕ
space = 32

abbrev pub newline : ℕ
newline = 10

-- a space, and the bits of x; those of a NaN are the quiet NaN's
unfoldable pub number : Float → List ℕ
number x = space ∷ hexadecimal (to_bits binary64 x)

-- "status, x, y, z, clearance and count": a point's status is 0
unfoldable pub point_text : Float → Float → Float → Float → ℕ → List ℕ
point_text x y z clearance count = decimal 0 ++ (number x ++ (number y ++ (number z ++ (number clearance ++ (space ∷ decimal count)))))

unfoldable pub point_line : Float → Float → Float → Float → ℕ → List ℕ
point_line x y z clearance count = point_text x y z clearance count ++ (newline ∷ [])

-- "a refusal prints its number only"
unfoldable pub refusal_line : ℕ → List ℕ
refusal_line n = decimal n ++ (newline ∷ [])
