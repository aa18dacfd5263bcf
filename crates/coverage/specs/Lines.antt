-- What the code keeps while it goes along the grid's columns: the columns that have one turn, for a segment with the
-- middle mid, and how large the sums in the cells are.
use Rattle.std.specs.Prelude.{◌≡◌, List, ℕ, ◌≤◌, ◌<◌, ℤ, pos, nat_abs, Float, length, get_or}
use Rattle.std.specs.Float.{binary64}
use Rattle.std.specs.Float.Ieee.{add, sub}
use Rattle.points.specs.Grid.{part}
use Rattle.points.specs.Turns.{turns}

-- the turns at column i
abbrev pub turn_at : Float → Float → ℕ → Float
turn_at period mid i = turns (sub binary64 mid (part i)) period

-- at the columns from i up to t a turn by so much gives the copy of u
abbrev pub Turning : Float → Float → ℕ → ℕ → Float → Type 0
Turning period mid i t by = (m : ℕ) → i ≤ m → m ≤ t → add binary64 (part m) (turn_at period mid m) ≡ add binary64 (part m) by

-- every one of the cells is below so much in magnitude
abbrev pub Within : ℕ → List ℤ → Type 0
Within most cells = (k : ℕ) → k < length cells → nat_abs (get_or cells k (pos 0)) < most
