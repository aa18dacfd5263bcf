-- The triangle on flat lists, as the host has them: the centre's three numbers, and of each side nineteen in document
-- 01's order, "two ends of three coordinates, with a reversed flag, circle centre and radius, two range ends, and the
-- host's evaluated ends". A list of another length, or a flag that is neither 0 nor 1, is a number missing: 16
-- (docs/DECISIONS.md).
use Rattle.std.specs.Prelude.{Bool, not, cond, ◌||◌, List, [], ◌∷◌, ℕ, ◌+◌, eqb, Float, length, get_or}
use Rattle.std.specs.Float.{nan}
use Rattle.std.specs.Float.Ieee.{eq}
use Rattle.leaves.specs.Constants.{plus_zero, one}
use Rattle.space.specs.Places.{place_at}
use Rattle.answers.specs.Outcome.{Numbers, refused}
use Rattle.sides.specs.declared.side.Side.{Side}
use Rattle.triangle.specs.Triangle.{triangle_of}

-- ---- 16

unfoldable pub no_flag : Float → Bool
unfolding eq
no_flag x = not (eq x plus_zero || eq x one)

unfoldable pub lists_wrong : List Float → List Float → Bool
unfolding no_flag
lists_wrong centre sides =
    not (eqb (length centre) 3)
    || not (eqb (length sides) 57)
    || no_flag (get_or sides 6 nan)
    || no_flag (get_or sides 25 nan)
    || no_flag (get_or sides 44 nan)

-- ---- the side whose nineteen numbers begin at n

abbrev pub coordinates : List Float → ℕ → List Float
coordinates xs n = get_or xs n nan ∷ get_or xs (n + 1) nan ∷ get_or xs (n + 2) nan ∷ []

unfoldable pub side_from : List Float → ℕ → Side
unfolding eq
side_from sides n = record {
  ends = coordinates sides n ∷ coordinates sides (n + 3) ∷ [];
  reversed = eq (get_or sides (n + 6) nan) one;
  circle = record { centre = place_at sides (n + 7); radius = get_or sides (n + 10) nan };
  range = get_or sides (n + 11) nan ∷ get_or sides (n + 12) nan ∷ [];
  evaluated = coordinates sides (n + 13) ∷ coordinates sides (n + 16) ∷ [];
}

-- ---- the call

unfoldable pub triangle_lists_of : List Float → Float → ℕ → List Float → Numbers
unfolding lists_wrong triangle_of side_from
triangle_lists_of centre radius sense sides =
    cond (lists_wrong centre sides)
    (refused 16)
    (triangle_of (record { centre = place_at centre 0; radius = radius }) sense (side_from sides 0 ∷ side_from sides 19 ∷ side_from sides 38 ∷ []))
