-- Document 01, "`placed`: 12 numbers and a point; 16: a number not finite", and 24: "`placed`: result not finite". The
-- rows of three by four numbers; the last of a row is the translation, and comes first in the sum.
use Rattle.std.specs.Prelude.{Bool, ◌||◌, List, [], ◌∷◌, ℕ, ◌+◌, Float, get_or}
use Rattle.std.specs.Float.{nan, binary64}
use Rattle.std.specs.Float.Ieee.{add, mul}
use Rattle.leaves.specs.Constants.{greatest_finite}
use Rattle.space.specs.Places.{place_at}
use Rattle.space.specs.Vectors.{place}
use Rattle.space.specs.declared.vectors.Place.{Place}
use Rattle.answers.specs.Outcome.{check, first, Numbers, settled}
use Rattle.answers.specs.Answers.{valued}
use Rattle.answers.specs.Limits.{place_beyond, missing}

-- ((t + r₀ p₀) + r₁ p₁) + r₂ p₂
unfoldable pub row : Float → Float → Float → Float → Place → Float
unfolding add mul
row r₀ r₁ r₂ t p = add binary64 (add binary64 (add binary64 t (mul binary64 r₀ p.x)) (mul binary64 r₁ p.y)) (mul binary64 r₂ p.z)

-- the row that begins at n
unfoldable pub row_at : List Float → ℕ → Place → Float
unfolding row
row_at transform n p = row (get_or transform n nan) (get_or transform (n + 1) nan) (get_or transform (n + 2) nan) (get_or transform (n + 3) nan) p

unfoldable pub placed_at : List Float → Place → Place
unfolding row_at
placed_at transform p = place (row_at transform 0 p) (row_at transform 4 p) (row_at transform 8 p)

unfoldable pub any_not_finite : Place → Bool
any_not_finite p = place_beyond greatest_finite p

unfoldable pub placed_of : List Float → List Float → Numbers
unfolding any_not_finite placed_at
placed_of transform point =
    settled
    (first (check 16 (missing 12 greatest_finite transform || missing 3 greatest_finite point) ∷ check 24 (any_not_finite (placed_at transform (place_at point 0))) ∷ []))
    (valued (placed_at transform (place_at point 0)).x (placed_at transform (place_at point 0)).y (placed_at transform (place_at point 0)).z)
