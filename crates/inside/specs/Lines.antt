-- What the code keeps while it goes along the grid's lines: how many lines are below a number, and a cell for each grid
-- point in a list, line after line.
use Rattle.std.specs.Prelude.{◌≡◌, Bool, false, ◌&&◌, List, map, ℕ, ◌+◌, ◌*◌, ◌/◌, ◌%◌, ◌≤◌, ◌<◌, leb, ltb, Float, length, get_or}
use Rattle.std.specs.Bool.{xor}
use Rattle.std.specs.Float.{binary64}
use Rattle.std.specs.Float.Ieee.{add, sub, mul, div, lt}
use Rattle.sheet.specs.Content.{Point}
use Rattle.inside.specs.Inside.{inside_of}
use Rattle.points.specs.Grid.{part, grid_point, up_from}

-- ---- the edge from b to a

-- where it is at v: p is before that where `flips` holds
unfoldable pub cut : Point → Point → Float → Float
unfolding add sub mul div
cut a b v = add binary64 (div binary64 (mul binary64 (sub binary64 b.u a.u) (sub binary64 v a.v)) (sub binary64 b.v a.v)) a.u

-- ---- the lines 1/32 to 31/32 and a number

-- no line after the first so many is below x
pub record NoneAfter (x : Float) (count : ℕ) : Type 0 where
  pub most : count ≤ 31
  pub none : (m : ℕ) → count ≤ m → m < 31 → lt (part (m + 1)) x ≡ false

-- so many lines are below x, and these are the first ones
pub record Below (x : Float) (count : ℕ) : Type 0 where
  pub most : count ≤ 31
  pub is : (m : ℕ) → m < 31 → lt (part (m + 1)) x ≡ ltb m count

-- just one of a and b is above a line where the line is one of those after the first `low`, up to `high` of them
pub record Parted (a b : Float) (low high : ℕ) : Type 0 where
  pub order : low ≤ high
  pub most : high ≤ 31
  pub is : (m : ℕ) → m < 31 → xor (lt (part (m + 1)) a) (lt (part (m + 1)) b) ≡ leb low m && ltb m high

-- ---- a cell for each grid point

-- so many cells, with the given value in each place
pub record Holds {A : Type 0} (none : A) (size : ℕ) (cells : List A) (value : ℕ → A) : Type 0 where
  pub count : length cells ≡ size
  pub is : (k : ℕ) → k < size → get_or cells k none ≡ value k

-- the grid point in place k of the grid's order: the points of a column, which have one u, side by side
unfoldable pub by_columns : ℕ → Point
unfolding grid_point
by_columns k = grid_point (k / 31 + 1) (k % 31 + 1)

-- the one in place k where the points of a row, which have one v, stand side by side
unfoldable pub by_rows : ℕ → Point
unfolding grid_point
by_rows k = grid_point (k % 31 + 1) (k / 31 + 1)

-- where the grid point in place k of the grid's order stands by rows
abbrev pub in_rows : ℕ → ℕ
in_rows k = k % 31 * 31 + k / 31

-- ---- what rings flip

-- 961 cells by rows, each xored with whether its grid point is inside the ring
unfoldable pub flipped_by : List Point → List Bool → List Bool
unfolding inside_of by_rows
flipped_by ring cells = map (λ (k : ℕ). xor (get_or cells k false) (inside_of ring (by_rows k))) (up_from 0 961)
