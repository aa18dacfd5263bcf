-- Document 01, "Round fallback (`cylinder_point` up to middle angle and height; host gives heights and angles): 16 as
-- for vertices; 22: no heights, over 256 of either, spread ≤ 1e-6; 23: middle unclear", and `cylinder_point` of
-- faces.rs from its lows and highs to its middle height.
use Rattle.std.specs.Prelude.{Bool, not, cond, ◌&&◌, ◌||◌, ℕ, eqb, ltb, length, Float}
use mathlib.Core.List.{List, [], ◌∷◌, map, foldl}
use Rattle.std.specs.Float.{binary64}
use Rattle.std.specs.Float.Ieee.{add, sub, div, neg, lt, le, eq}
use Rattle.leaves.specs.Bounds.{smaller_of, larger_of}
use Rattle.leaves.specs.Constants.{plus_zero, pi, tau, micro, one}
use Rattle.leaves.specs.Wrap.{rem_tau}
use Rattle.answers.specs.Outcome.{check, first, Numbers, settled}
use Rattle.answers.specs.Limits.{beyond, argument_limit}
use Rattle.answers.specs.Lists.{any_of}
use Rattle.points.specs.Bounds.{least, greatest}
use Rattle.points.specs.Segments.{two, middle, Between, segments}
use Rattle.answers.specs.Answers.{valued}
use Rattle.round_fallback.specs.declared.cylinder.Extent.{Extent}
use Rattle.round_fallback.specs.declared.cylinder.Stretch.{Stretch}

-- ---- 16 and 22

unfoldable pub round_wrong : List Float → List Float → Bool
round_wrong heights angles = any_of (beyond argument_limit) heights || any_of (beyond argument_limit) angles

-- the least and the greatest of one number more, as the code finds both in one walk
unfoldable pub with_number : Extent → Float → Extent
with_number e x = record { least = smaller_of e.least x; greatest = larger_of e.greatest x }

abbrev pub most_of_either : ℕ
most_of_either = 256

unfoldable pub heights_wrong : List Float → List Float → Bool
unfolding le sub
heights_wrong heights angles =
    eqb (length heights) 0
    || ltb most_of_either (length heights)
    || ltb most_of_either (length angles)
    || le (sub binary64 (greatest heights) (least heights)) micro

-- ---- the angles: `rem_euclid` by TAU, `sort_by(f64::total_cmp)`, `dedup_by`

-- less, or −0 before +0: one over a 0 tells its sign
unfoldable pub precedes : Float → Float → Bool
unfolding lt eq div
precedes a b = lt a b || (eq a b && lt (div binary64 one a) (div binary64 one b))

-- x before the first that it precedes, else last
unfoldable pub insert_of : Float → List Float → List Float
unfolding precedes
insert_of x [] = x ∷ []
insert_of x (y ∷ ys) = cond (precedes x y) (x ∷ y ∷ ys) (y ∷ insert_of x ys)

-- one after the other put in its place
unfoldable pub sorted_of : List Float → List Float
unfolding insert_of
sorted_of xs = foldl (λ (ys : List Float) (x : Float). insert_of x ys) [] xs

-- "(*a - *b).abs() < 1e-6"
unfoldable pub is_near : Float → Float → Bool
unfolding lt sub neg
is_near a b = lt (sub binary64 a b) micro && lt (neg (sub binary64 a b)) micro

-- those that are not near the last one kept
unfoldable pub kept_after : Float → List Float → List Float
unfolding is_near
kept_after last [] = []
kept_after last (x ∷ xs) = cond (is_near x last) (kept_after last xs) (x ∷ kept_after x xs)

unfoldable pub kept_of : List Float → List Float
unfolding kept_after
kept_of [] = []
kept_of (x ∷ xs) = x ∷ kept_after x xs

unfoldable pub corner_angles : List Float → List Float
unfolding kept_of sorted_of
corner_angles angles = kept_of (sorted_of (map rem_tau angles))

-- ---- "The empty stretches between neighbouring corner angles, going round", and the widest, the first of equal ones

-- of n angles, from one to the next
unfoldable pub gap_of : ℕ → Between Float → Float
unfolding sub
gap_of n s = cond (eqb n 1) tau (rem_tau (sub binary64 s.b s.a))

abbrev pub stretch : Float → Float → Stretch
stretch gap from = record { gap = gap; from = from }

unfoldable pub wider : ℕ → Stretch → Between Float → Stretch
unfolding lt gap_of
wider n best s = cond (lt best.gap (gap_of n s)) (stretch (gap_of n s) s.a) best

unfoldable pub widest_of : List Float → Stretch
unfolding wider
widest_of angles = foldl (wider (length angles)) (stretch plus_zero plus_zero) (segments angles)

-- ---- 23, and the answer: "the angle opposite the seam of a face that goes all the way round, or the middle of the
-- shorter way between its two sides"

-- neither a single corner angle, nor an empty stretch past a half turn
unfoldable pub unclear : List Float → Bool
unfolding lt add widest_of
unclear angles = not (eqb (length angles) 1 || lt (add binary64 pi micro) (widest_of angles).gap)

unfoldable pub opposite : Stretch → Float
unfolding add sub div
opposite w = add binary64 (add binary64 w.from w.gap) (div binary64 (sub binary64 tau w.gap) two)

unfoldable pub middle_angle : List Float → Float
unfolding add opposite widest_of
middle_angle angles = cond (eqb (length angles) 1) (add binary64 (widest_of angles).from pi) (opposite (widest_of angles))

unfoldable pub middle_height : List Float → Float
unfolding add div
middle_height heights = middle (least heights) (greatest heights)

-- of the heights and the corner angles
unfoldable pub middle_among : List Float → List Float → Numbers
unfolding unclear middle_angle middle_height
middle_among heights angles = settled (first (check 23 (unclear angles) ∷ [])) (valued (middle_angle angles) (middle_height heights) plus_zero)

unfoldable pub cylinder_point_of : List Float → List Float → Numbers
unfolding round_wrong heights_wrong middle_among corner_angles
cylinder_point_of heights angles = settled (first (check 16 (round_wrong heights angles) ∷ check 22 (heights_wrong heights angles) ∷ [])) (middle_among heights (corner_angles angles))
