-- What the private functions over a periodic chart's copies promise each other. A reader of the search's definition
-- needs nothing of it.
use Rattle.std.specs.Prelude.{Bool, not, ◌&&◌, List, ◌≡◌, ℕ, ◌≤◌, ◌<◌, Float, length, get_or}
use Rattle.std.specs.Float.Ieee.{eq, ne}
use Rattle.leaves.specs.Constants.{plus_zero, greatest_finite}
use Rattle.answers.specs.Limits.{beyond}
use Rattle.points.specs.Segments.{middle, Segment}
use Rattle.points.specs.Grid.{part}
use Rattle.points.specs.Turns.{keeps_order}
use Rattle.clearance.specs.Clearance.{shifted_to}

-- the same, and not 0, where a sign would not show
unfoldable pub same : Float → Float → Bool
unfolding eq ne
same x y = eq x y && ne x plus_zero

unfoldable pub same_ends : Segment → Segment → Bool
unfolding same
same_ends x y = same x.a.u y.a.u && same x.b.u y.b.u

unfoldable pub regular : Float → Segment → Bool
unfolding keeps_order beyond
regular period s = keeps_order period (middle s.a.u s.b.u) && (not (beyond greatest_finite s.a.u) && not (beyond greatest_finite s.b.u))

-- c is the copy of s at the columns from i up to t
abbrev pub Serving : Float → ℕ → ℕ → Segment → Segment → Type 0
Serving period i t s c = (m : ℕ) → i ≤ m → m ≤ t → shifted_to period (part m) s ≡ c

-- each copy serves from column i on up to the column noted in its place
abbrev pub Ready : Float → ℕ → List Segment → List ℕ → List Segment → Type 0
Ready period i list until copies = (k : ℕ) (s : Segment) → k < length list → Serving period i (get_or until k 0) (get_or list k s) (get_or copies k s)
