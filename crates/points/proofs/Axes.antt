-- Points, axis by axis: the least and the greatest of their coordinates as folds, from infinity down and from -infinity
-- up, and the four of them as one fold of the box, a point at a time.
use mathlib.Core.Path.{◌≡◌, refl}
use mathlib.Core.Bool.{true, false}
use mathlib.Core.List.{List, [], ◌∷◌, foldl, map}
use lib.Ieee.{Float, inf, binary64, of_bits}
use Rattle.leaves.specs.Bounds.{smaller_of, larger_of}
use Rattle.sheet.specs.Content.{Point, point}
use Rattle.std.specs.List.{fold}
use Rattle.points.specs.declared.bounds.Box.{Box}
use Rattle.points.specs.Bounds.{axis_of, least, greatest, box_of, with_point}

-- ---- one axis, from the patterns of the infinities

pub least_is : (xs : List Float) → least xs ≡ foldl smaller_of (of_bits binary64 0x7FF0000000000000) xs
unfolding least of_bits
least_is xs = refl

pub greatest_is : (xs : List Float) → greatest xs ≡ foldl larger_of (of_bits binary64 0xFFF0000000000000) xs
unfolding greatest of_bits
greatest_is xs = refl

-- ---- the box

abbrev box : Point → Point → Box
box least greatest = record { least = least; greatest = greatest }

-- of no points
abbrev pub empty_box : Box
empty_box = box (point (inf false) (inf false)) (point (inf true) (inf true))

boxed : (a b c d : Float) (ps : List Point) → fold with_point (box (point a b) (point c d)) ps ≡ box (point (foldl smaller_of a (map (axis_of 0) ps)) (foldl smaller_of b (map (axis_of 1) ps))) (point (foldl larger_of c (map (axis_of 0) ps)) (foldl larger_of d (map (axis_of 1) ps)))
unfolding with_point axis_of
boxed a b c d [] = refl
boxed a b c d (p ∷ ps) = boxed (smaller_of a p.u) (smaller_of b p.v) (larger_of c p.u) (larger_of d p.v) ps

pub box_found : (ps : List Point) → fold with_point empty_box ps ≡ box_of ps
unfolding box_of least greatest
box_found ps = boxed (inf false) (inf false) (inf true) (inf true) ps
