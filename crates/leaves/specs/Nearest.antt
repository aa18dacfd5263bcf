-- What it says that a value is the one nearest to the exact root of x, and a whole number the one nearest to a value,
-- without real numbers. Every value of a format is a whole number of the format's smallest
-- value, 2 ^ -low. In those units a sum of two values is a whole number too, and the midpoint of g and y lies above the
-- root of x exactly where the square of their sum is above 4 * x.
use Rattle.std.specs.Prelude.{◌≡◌, ℕ, ◌+◌, ◌-◌, ◌*◌, ◌/◌, ◌^◌, ◌<◌, ◌≤◌, Bool, true, false, T, ◌⊎◌, Float}
use Rattle.std.specs.Float.{nan, inf, fin, Format}
use Rattle.std.specs.Float.Ieee.{low, up, down, lt, fits}
use Rattle.std.specs.Float.Ieee.Exact.{HasValue}
use Rattle.std.specs.Float.Ieee.Scale.{finite}

-- ---- of roots

-- a finite value's magnitude in units of the format's smallest value, and 0 for a NaN and an infinity
abbrev pub units_in : Format → Float → ℕ
units_in f nan = 0
units_in f (inf s) = 0
units_in f (fin s m e) = m * up e * 2 ^ low f / down e

-- ±a + ±b, and 0 where that is below 0
abbrev pub signed_sum : Bool → ℕ → Bool → ℕ → ℕ
signed_sum false a false b = a + b
signed_sum false a true b = a - b
signed_sum true a false b = b - a
signed_sum true a true b = 0

-- the sum of two finite values in units, and 0 where it is below 0
abbrev pub sum_units : Format → Float → Float → ℕ
sum_units f nan y = 0
sum_units f (inf s) y = 0
sum_units f (fin s m e) nan = 0
sum_units f (fin s m e) (inf t) = 0
sum_units f (fin s m e) (fin t n d) = signed_sum s (units_in f (fin s m e)) t (units_in f (fin t n d))

-- the square of twice the root of x, in units: 2 ^ low of them are 1
abbrev pub four_times : Format → Float → ℕ
four_times f x = 4 * (units_in f x * 2 ^ low f)

-- y is nearer than g to the root of x: y is below g and the midpoint of the two is above the root, or y is above g and
-- the midpoint is below the root
abbrev pub Nearer : Format → Float → Float → Float → Type 0
Nearer f x g y = (T (lt y g) × (four_times f x < sum_units f y g * sum_units f y g)) ⊎ (T (lt g y) × (sum_units f y g * sum_units f y g < four_times f x))

-- g is a finite value of the format, and no other is nearer to the root of x
pub record NearestRoot (f : Format) (x g : Float) : Type 0 where
  pub held : T (fits f g)
  pub number : T (finite g)
  pub none_nearer : (y : Float) → T (fits f y) → T (finite y) → Nearer f x g y → ⊥

-- ---- of whole numbers

-- the distance of two numbers
abbrev pub gap : ℕ → ℕ → ℕ
gap x y = (x - y) + (y - x)

-- r is the whole number q with the sign s, and q is the whole number nearest to a / c, halves away from zero: `near`
-- and `away`, which no other number has both of.
-- A distance from a / c stands here c times, so that it is a natural number. That of the whole number n of the other
-- sign is n * c + a.
pub record NearestWhole (r : Float) (s : Bool) (a c q : ℕ) : Type 0 where
  pub value : HasValue r s q 1
  pub near : (n : ℕ) → gap (q * c) a ≤ gap (n * c) a
  pub other_sign : (n : ℕ) → gap (q * c) a ≤ n * c + a
  pub away : (n : ℕ) → gap (n * c) a ≡ gap (q * c) a → n ≤ q
  pub only : (p : ℕ) → ((n : ℕ) → gap (p * c) a ≤ gap (n * c) a) → ((n : ℕ) → gap (n * c) a ≡ gap (p * c) a → n ≤ p) → p ≡ q
