-- Places in a list of numbers: x, y, z of the first, x, y, z of the next, and so on.
use Rattle.std.specs.Prelude.{List, [], ◌∷◌, ℕ, ◌+◌, Float, get_or}
use Rattle.std.specs.Float.{nan}
use Rattle.space.specs.Vectors.{place}
use Rattle.space.specs.declared.vectors.Place.{Place}
use Rattle.space.specs.declared.places.Places.{Places}

unfoldable pub triples : List Float → List Place
triples [] = []
triples (x ∷ []) = []
triples (x ∷ y ∷ []) = []
triples (x ∷ y ∷ z ∷ rest) = place x y z ∷ triples rest

-- the place whose three numbers begin at n; a number past the list's end is a NaN
abbrev pub place_at : List Float → ℕ → Place
place_at xs n = place (get_or xs n nan) (get_or xs (n + 1) nan) (get_or xs (n + 2) nan)

-- those that the code's iterator (src/places.rt) has yet to give
abbrev pub places_left : Places → List Place
places_left it = triples it.list.now
