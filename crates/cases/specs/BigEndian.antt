-- Numbers in bytes.
use Rattle.std.specs.Prelude.{ℕ, zero, suc, ◌+◌, ◌*◌, List, slice_index}

-- the number of the k bytes of s from `at` on, each of which weighs 256 times the next; a byte past the end counts as 0
unfoldable pub big : List ℕ → ℕ → ℕ → ℕ
big s at zero = 0
big s at (suc k) = big s at k * 256 + slice_index s (at + k)
