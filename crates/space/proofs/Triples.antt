-- Places in a list of numbers: past its end, and how many there are.
use mathlib.Core.Path.{◌≡◌, refl, sym}
use mathlib.Core.List.{List, [], ◌∷◌}
use Prim.Native.Nat.{ℕ, ◌/◌, ◌≤◌}
use native.Mathlib.Omega.{arith}
use lib.Ieee.{Float, nan, binary64, of_bits}
use lib.ListN.{length, get_or, get_or-eq_default}
use Rattle.space.specs.Places.{triples}

-- ---- past the end, where the code gives the pattern of a NaN

pub past_end : (xs : List Float) {n : ℕ} → length xs ≤ n → of_bits binary64 0x7FF8000000000000 ≡ get_or xs n nan
unfolding of_bits
past_end xs h = sym (get_or-eq_default xs nan h)

-- ---- how many

pub length_triples : (xs : List Float) → length (triples xs) ≡ length xs / 3
unfolding triples
length_triples [] = refl
length_triples (x ∷ []) = refl
length_triples (x ∷ y ∷ []) = refl
length_triples (x ∷ y ∷ z ∷ xs) = let e = length_triples xs in omega (arith, e)
