-- The least and the greatest of a list, found in one walk: the fold of the two, a number at a time, from the patterns
-- of the infinities.
use mathlib.Core.Path.{◌≡◌, refl}
use mathlib.Core.List.{List, [], ◌∷◌, foldl}
use lib.Ieee.{Float, binary64, of_bits}
use Rattle.leaves.specs.Bounds.{smaller_of, larger_of}
use Rattle.points.specs.Bounds.{least, greatest}
use Rattle.points.proofs.Axes.{least_is, greatest_is}
use Rattle.round_fallback.specs.declared.cylinder.Extent.{Extent}
use Rattle.round_fallback.specs.Cylinder.{with_number}

abbrev extent : Float → Float → Extent
extent least greatest = record { least = least; greatest = greatest }

-- of no numbers
abbrev pub empty_extent : Extent
empty_extent = extent (of_bits binary64 0x7FF0000000000000) (of_bits binary64 0xFFF0000000000000)

-- each of the two goes its own way
both : (a b : Float) (xs : List Float) → foldl with_number (extent a b) xs ≡ extent (foldl smaller_of a xs) (foldl larger_of b xs)
unfolding with_number
both a b [] = refl
both a b (x ∷ xs) = both (smaller_of a x) (larger_of b x) xs

pub extent_found : (xs : List Float) → foldl with_number empty_extent xs ≡ extent (least xs) (greatest xs)
extent_found xs = rw (least_is, greatest_is) (both _ _ xs)
