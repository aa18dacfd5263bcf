-- Document 01, "Chart", rule 3, what it asks of points: "Box: least and greatest u and v", and of a ring: "first and
-- last u differ by over PI".
use Rattle.std.specs.Prelude.{Bool, true, false, cond, ℕ, eqb, Float}
use mathlib.Core.List.{List, [], ◌∷◌, map, foldl}
use Rattle.std.specs.Float.{inf, binary64}
use Rattle.std.specs.Float.Ieee.{sub}
use Rattle.leaves.specs.Bounds.{smaller_of, larger_of, exceeds_of}
use Rattle.leaves.specs.Constants.{pi}
use Rattle.sheet.specs.Content.{Point, point}
use Rattle.points.specs.declared.bounds.Box.{Box}

unfoldable pub least : List Float → Float
least xs = foldl smaller_of (inf false) xs

unfoldable pub greatest : List Float → Float
greatest xs = foldl larger_of (inf true) xs

-- a point's u at axis 0, its v at any other
unfoldable pub axis_of : ℕ → Point → Float
axis_of axis p = cond (eqb axis 0) p.u p.v

-- the four of them
unfoldable pub box_of : List Point → Box
unfolding least greatest axis_of
box_of ps = record {
  least = point (least (map (axis_of 0) ps)) (least (map (axis_of 1) ps));
  greatest = point (greatest (map (axis_of 0) ps)) (greatest (map (axis_of 1) ps));
}

-- the box of one point more
unfoldable pub with_point : Box → Point → Box
with_point box p = record {
  least = point (smaller_of box.least.u p.u) (smaller_of box.least.v p.v);
  greatest = point (larger_of box.greatest.u p.u) (larger_of box.greatest.v p.v);
}

-- the last of one and those after it
unfoldable pub last_of : {A : Type 0} → A → List A → A
last_of p [] = p
last_of p (q ∷ qs) = last_of q qs

unfoldable pub goes_around : List Point → Bool
unfolding last_of sub
goes_around [] = false
goes_around (p ∷ ps) = exceeds_of (sub binary64 p.u (last_of p ps).u) pi
