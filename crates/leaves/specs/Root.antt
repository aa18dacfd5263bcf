-- Document 01, "Root: IEEE 754 square root, nearest, ties to even; −0 gives −0, infinity itself; negative or NaN gives
-- a NaN".
-- The exact root of a value above 0 is rounded once, by `lib.Ieee`'s `round`. It is handed over as a fraction that
-- rounds as the root does: the root's whole part r in units of half the format's smallest value, and half a unit more
-- where the root is not whole. Every value of the format and every midpoint of two of them is a whole number of those
-- units, so the root lies on the same side of each as that fraction.
-- proofs/Roots.antt shows that the answer is the nearest, and the only nearest, value.
use Rattle.std.specs.Prelude.{ℕ, zero, suc, ◌+◌, ◌*◌, ◌/◌, ◌^◌, true, false, cond, eqb, leb, Float}
use Rattle.std.specs.Float.{nan, inf, fin, Format, binary64}
use Rattle.std.specs.Float.Ieee.{low, up, down, size, round}

-- ---- the whole part of the root of a whole number, by binary digits

-- r is the root of n / 4; the root of n is 2 * r, or one more
abbrev pub next_digit : ℕ → ℕ → ℕ
next_digit n r = cond (leb ((2 * r + 1) * (2 * r + 1)) n) (2 * r + 1) (2 * r)

-- the root of an n below 4 ^ k
unfoldable pub root_digits : ℕ → ℕ → ℕ
root_digits zero n = 0
root_digits (suc k) n = next_digit n (root_digits k (n / 4))

unfoldable pub whole_root : ℕ → ℕ
unfolding root_digits size
whole_root n = root_digits (size n) n

-- 1 where the root of n is not whole
unfoldable pub sticky : ℕ → ℕ
unfolding whole_root
sticky n = cond (eqb (whole_root n * whole_root n) n) 0 1

-- ---- the root of a value

-- a value above 0 in units of (2 ^ (low + 1)) ^ 2 to 1: a whole number for every value of the format
abbrev pub square_units : Format → ℕ → ℕ → ℕ
square_units f num den = num * 2 ^ (2 * (low f + 1)) / den

-- the root of n such units, rounded
unfoldable pub rounded : Format → ℕ → Float
unfolding whole_root sticky round
rounded f n = round f false (2 * whole_root n + sticky n) (2 ^ (low f + 2))

unfoldable pub root_in : Format → Float → Float
unfolding rounded
root_in f nan = nan
root_in f (inf true) = nan
root_in f (inf false) = inf false
root_in f (fin s zero e) = fin s zero e
root_in f (fin true (suc m) e) = nan
root_in f (fin false (suc m) e) = rounded f (square_units f (suc m * up e) (down e))

unfoldable pub root_of : Float → Float
unfolding root_in
root_of = root_in binary64
