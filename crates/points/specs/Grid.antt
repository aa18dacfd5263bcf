-- Document 01, "Chart", rule 6: "Grid: (i/32, j/32), i from 1 to 31 outer, j likewise inner".
use mathlib.Core.List.{List, [], ◌∷◌, map, flat_map}
use Rattle.std.specs.Prelude.{ℕ, zero, suc, ◌+◌, pos, Float}
use Rattle.std.specs.Float.{binary64}
use Rattle.std.specs.Float.Ieee.{of_bits, of_int, div}
use Rattle.sheet.specs.Content.{Point, point}

-- n numbers from i on
unfoldable pub up_from : ℕ → ℕ → List ℕ
up_from i zero = []
up_from i (suc n) = i ∷ up_from (i + 1) n

-- 1 to 31
unfoldable pub lines : List ℕ
unfolding up_from
lines = up_from 1 31

abbrev pub thirty_two : Float
thirty_two = of_bits binary64 0x4040000000000000

-- i/32
unfoldable pub part : ℕ → Float
unfolding div of_int
part i = div binary64 (of_int binary64 (pos i)) thirty_two

unfoldable pub grid_point : ℕ → ℕ → Point
unfolding part
grid_point i j = point (part i) (part j)

-- a value for each grid point, in the grid's order
unfoldable pub grid_of : {A : Type 0} → (ℕ → ℕ → A) → List A
unfolding flat_map lines
grid_of f = flat_map (λ (i : ℕ). map (f i) lines) lines
