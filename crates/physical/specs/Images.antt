-- Document 01, "Point": "Images follow the chart's written points, three coordinates each".
use Rattle.std.specs.Prelude.{List, [], ◌∷◌, ℕ, ◌*◌, Float, length, take, drop}
use Rattle.space.specs.Places.{triples}
use Rattle.space.specs.declared.vectors.Place.{Place}
use Rattle.sheet.specs.Content.{Coedge, ring_points}

-- how many numbers the images of a ring's points are
unfoldable pub image_numbers : List Coedge → ℕ
image_numbers r = 3 * length (ring_points r)

-- those of each ring, one ring behind the other
unfoldable pub ring_images : List (List Coedge) → List Float → List (List Place)
unfolding image_numbers
ring_images [] images = []
ring_images (r ∷ rs) images = triples (take (image_numbers r) images) ∷ ring_images rs (drop (image_numbers r) images)
