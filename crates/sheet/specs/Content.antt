-- What a sheet says: the surface's kind and sense, the plane's numbers, and the rings that trim it.
-- A ring is a list of coedges, a coedge a deviation and the points (u, v) sampled along it, however many.
use mathlib.Core.List.{List, [], ◌∷◌, flat_map}
use Rattle.std.specs.Prelude.{ℕ, Float}
use Rattle.sheet.specs.declared.point.Point as declared

-- the code's struct (src/point.rt)
abbrev pub Point : Type 0
Point = declared.Point

pub record Coedge : Type 0 where
  pub deviation : Float
  pub points : List Point

pub record Sheet : Type 0 where
  pub kind : ℕ
  pub sense : ℕ
  pub plane : List Float
  pub rings : List (List Coedge)

-- the points of a ring, in file order
unfoldable pub ring_points : List Coedge → List Point
unfolding flat_map
ring_points ring = flat_map (λ (c : Coedge). c.points) ring

-- ---- points in a list of numbers: u, v of the first, u, v of the next, and so on

abbrev pub point : Float → Float → Point
point u v = record { u = u; v = v }

unfoldable pub flat : List Point → List Float
flat [] = []
flat (p ∷ ps) = p.u ∷ p.v ∷ flat ps
