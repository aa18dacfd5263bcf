-- Document 01, "Point": "Images follow the chart's written points, three coordinates each, the candidate's last, which
-- is the point answered".
use Rattle.std.specs.Prelude.{List, ◌*◌, Float}
use Rattle.space.specs.Places.{place_at}
use Rattle.space.specs.declared.vectors.Place.{Place}
use Rattle.sheet.specs.Content.{Sheet}
use Rattle.frame.specs.Framing.{point_count}

-- the candidate's, behind those of all points
unfoldable pub last_image : Sheet → List Float → Place
last_image s images = place_at images (3 * point_count s)
