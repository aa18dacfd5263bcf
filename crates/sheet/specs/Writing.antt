-- Document 01, "Sheet", from the other side: the bytes of version 1 that say a sheet. No contract cites them: the
-- chart's and the picker's theorems on plate A do.
use Rattle.std.specs.Prelude.{ℕ, length}
use mathlib.Core.List.{List, ◌∷◌, ◌++◌, flat_map}
use Rattle.std.specs.Int.{to_be_bytes, w32}
use Rattle.buffer.specs.BigEndian.{number_bytes}
use Rattle.sheet.specs.Content.{Point, Coedge, Sheet}

unfoldable pub point_bytes : Point → List ℕ
unfolding number_bytes
point_bytes p = number_bytes p.u ++ number_bytes p.v

unfoldable pub coedge_bytes : Coedge → List ℕ
unfolding number_bytes point_bytes flat_map
coedge_bytes c = number_bytes c.deviation ++ flat_map point_bytes c.points

unfoldable pub ring_bytes : List Coedge → List ℕ
unfolding coedge_bytes flat_map
ring_bytes ring = length ring ∷ flat_map coedge_bytes ring

-- what follows the length
unfoldable pub body : Sheet → List ℕ
unfolding number_bytes ring_bytes flat_map
body s = 1 ∷ s.kind ∷ s.sense ∷ length s.rings ∷ flat_map number_bytes s.plane ++ flat_map ring_bytes s.rings

unfoldable pub sheet_bytes : Sheet → List ℕ
unfolding body
sheet_bytes s = to_be_bytes w32 (length (body s)) ++ body s
