-- What the private functions of src/square_root.rt promise each other. The contract of `root` names none of it.
use Rattle.std.specs.Prelude.{◌≡◌, ℕ, ◌+◌, ◌-◌, ◌*◌, ◌/◌, ◌^◌, ◌<◌, ◌≤◌, false, Float}
use Rattle.std.specs.Float.Ieee.Exact.{HasValue}
use Rattle.leaves.specs.Root.{whole_root, root_of}
use Rattle.leaves.specs.declared.square_root.RootDigits.{RootDigits}

-- r is the root of num / 2 ^ places
pub record RootOfFraction (r : Float) (num places : ℕ) : Type 0 where
  pub is : (x : Float) → HasValue x false num (2 ^ places) → r ≡ root_of x

-- ---- what the digit engine is handed, and what it gives
-- root holds the digits found so far, in their places, and `places` digits are still to be found; rest * 2 ^ places is
-- twice what is left of the radicand.

abbrev pub radicand : ℕ → ℕ → ℕ → ℕ
radicand root places rest = root * root + rest * 2 ^ places / 2

-- the digits found are right so far: the radicand's root is less than 2 ^ places above them. 54 digits at most.
pub record Started (root places rest : ℕ) : Type 0 where
  pub small : root + 2 ^ places ≤ 2 ^ 54
  pub whole : 2 * (rest * 2 ^ places / 2) ≡ rest * 2 ^ places
  pub near : radicand root places rest < (root + 2 ^ places) * (root + 2 ^ places)

abbrev pub root_digits_of : ℕ → RootDigits
root_digits_of n = record { root = whole_root n; rest = n - whole_root n * whole_root n }
