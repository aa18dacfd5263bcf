-- Keys and hypotenuses. A key is a value without a sign, or a NaN. Keys order as hypotenuses do: the hypotenuse of the
-- lesser key is not greater, the least of two hypotenuses is that of the lesser key, and the greatest
-- that of the greater, so the least of many takes one root. A hypotenuse is never -0, never negative, and fits. Assumes
-- nothing.
use Rattle.std.proofs.Common.{◌≡◌, false, T, List, [], ◌∷◌, refl, ap, ◌∙◌}
use mathlib.Core.List.{foldl}
use lib.Ieee.{Float, inf, binary64, mul, le, of_bits}
use lib.Ieee.Bits.{of_bits-fits}
use lib.Ieee.Fits.{add-fits, inf-fits}
use Rattle.leaves.specs.Bounds.{smaller_of, larger_of}
use Rattle.leaves.specs.Constants as constants
use Rattle.leaves.specs.Root.{root_in, root_of}
use Rattle.leaves.specs.Keys.{Key}
use Rattle.leaves.specs.Hypot.{key_of, hypot_of_key, hypot_of, hypot3_of}
use Rattle.leaves.proofs.Choices.{Clear, smaller_keeps}
use Rattle.leaves.proofs.Folds.{All}
use Rattle.leaves.proofs.Signs.{Unsigned, clear_of_sign, add_positive, square_positive}
use Rattle.leaves.proofs.Roots.{root_held}
use Rattle.leaves.proofs.RootOrder.{root_mono, root_unsigned, smaller_root, larger_root}

-- ---- keys

pub key_is : (a b : Float) → Key (key_of a b)
unfolding key_of
key_is a b = record { held = add-fits binary64 (mul binary64 a a) (mul binary64 b b); unsigned = add_positive binary64 (mul binary64 a a) (mul binary64 b b) (square_positive binary64 a) (square_positive binary64 b) }

-- the start of a least: infinity is a key, and its hypotenuse is itself
pub inf_key : Key (inf false)
inf_key = record { held = inf-fits binary64 false; unsigned = refl }

pub hypot_of_inf : hypot_of_key (inf false) ≡ inf false
unfolding hypot_of_key root_of root_in
hypot_of_inf = refl

-- the start of a greatest: so is zero
pub zero_key : Key constants.plus_zero
unfolding of_bits
zero_key = record { held = of_bits-fits binary64 0; unsigned = refl }

pub hypot_of_zero : hypot_of_key constants.plus_zero ≡ constants.plus_zero
unfolding hypot_of_key root_of root_in of_bits
hypot_of_zero = refl

pub smaller_key : (k l : Float) → Key k → Key l → Key (smaller_of k l)
smaller_key k l p q = smaller_keeps Key k l p q

-- ---- a hypotenuse is that of a key

pub hypot_by_key : (a b : Float) → hypot_of a b ≡ hypot_of_key (key_of a b)
unfolding hypot_of
hypot_by_key a b = refl

pub hypot3_by_key : (a b c : Float) → hypot3_of a b c ≡ hypot_of_key (key_of (hypot_of a b) c)
unfolding hypot3_of hypot_of
hypot3_by_key a b c = refl

-- ---- order

pub hypot_mono : (k l : Float) → Key k → Key l → T (le k l) → T (le (hypot_of_key k) (hypot_of_key l))
unfolding hypot_of_key root_of
hypot_mono k l p q h = root_mono binary64 k l p.held q.held p.unsigned h

pub smaller_hypot : (k l : Float) → Key k → Key l → smaller_of (hypot_of_key k) (hypot_of_key l) ≡ hypot_of_key (smaller_of k l)
unfolding hypot_of_key root_of
smaller_hypot k l p q = smaller_root binary64 k l p.held q.held p.unsigned q.unsigned

pub larger_hypot : (k l : Float) → Key k → Key l → larger_of (hypot_of_key k) (hypot_of_key l) ≡ hypot_of_key (larger_of k l)
unfolding hypot_of_key root_of
larger_hypot k l p q = larger_root binary64 k l p.held q.held p.unsigned q.unsigned

-- the least hypotenuse of many is the hypotenuse of the least key
pub least_hypot : (ks : List Float) → All Key ks → (k : Float) → Key k → foldl (λ (h l : Float). smaller_of h (hypot_of_key l)) (hypot_of_key k) ks ≡ hypot_of_key (foldl smaller_of k ks)
least_hypot [] a k p = refl
least_hypot (l ∷ ks) a k p = ap (λ (h : Float). foldl (λ (h l : Float). smaller_of h (hypot_of_key l)) h ks) (smaller_hypot k l p a.0) ∙ least_hypot ks a.1 (smaller_of k l) (smaller_key k l p a.0)

-- ---- hypotenuses

pub hypot_of_key_is : (k : Float) → Key k → Unsigned binary64 (hypot_of_key k)
unfolding hypot_of_key root_of
hypot_of_key_is k p = record { held = root_held binary64 k p.held; plain = root_unsigned binary64 k p.unsigned }

-- a hypotenuse fits and has no sign: it is neither -0 nor negative
pub hypot_is : (a b : Float) → Unsigned binary64 (hypot_of a b)
unfolding hypot_of
hypot_is a b = hypot_of_key_is (key_of a b) (key_is a b)

pub hypot3_is : (a b c : Float) → Unsigned binary64 (hypot3_of a b c)
unfolding hypot3_of
hypot3_is a b c = hypot_is (hypot_of a b) c

clear : (x : Float) → Unsigned binary64 x → Clear binary64 x
clear x p = record { held = p.held; unmarked = clear_of_sign x p.plain }

pub hypot_clear : (a b : Float) → Clear binary64 (hypot_of a b)
hypot_clear a b = clear (hypot_of a b) (hypot_is a b)

pub hypot3_clear : (a b c : Float) → Clear binary64 (hypot3_of a b c)
hypot3_clear a b c = clear (hypot3_of a b c) (hypot3_is a b c)
