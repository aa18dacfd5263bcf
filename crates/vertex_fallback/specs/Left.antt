-- The corners that the code's iterator (src/corners.rt) has yet to give.
use Rattle.std.specs.Prelude.{List, [], None, Some}
use Rattle.space.specs.Places.{places_left}
use Rattle.vertex_fallback.specs.declared.corners.Corner.{Corner}
use Rattle.vertex_fallback.specs.declared.corners.Corners.{Corners}
use Rattle.vertex_fallback.specs.Vertices.{corners_from}

-- none where it has given the last, which has the first place after it
unfoldable pub corners_left : Corners → List Corner
corners_left it = elim it.last [ None ↦ [] | Some last ↦ corners_from last.after last.before last.here (places_left it.rest) ]
