-- On which side of 0 a number is, and whether it is odd: its remainder by 2, which has its sign, is 0 just where the
-- magnitude's is.
use mathlib.Core.Path.{◌≡◌, refl}
use mathlib.Core.Bool.{not}
use Prim.Native.Nat.{ℕ, zero, suc, ◌%◌, ◌<◌}
use native.Mathlib.Omega.{arith}
use borrow.Author.Tests.{le-ltb}
use lib.Dec.{eqb}
use lib.IntN.{ℤ, pos, negsuc, neg_ℤ}
use lib.Signed.{lt_z, rem_z}
use mir.Syntax.{w64}
use mir.Val.{of_z}
use Rattle.std.proofs.lemmas.Int.{ints}
use Rattle.coverage.specs.Coverage.{oddℤ, on_side}

-- ---- forward on the positive side, reversed on the negative one

pub forward_side : (n : ℤ) → lt_z (pos 0) n ≡ on_side 1 n
unfolding on_side
forward_side (pos n) = refl
forward_side (negsuc n) = refl

pub reversed_side : (n : ℤ) → lt_z n (pos 0) ≡ on_side 2 n
unfolding on_side
reversed_side (pos n) = le-ltb n 0 (omega arith)
reversed_side (negsuc n) = refl

pub ruleset sides = (ints, forward_side, reversed_side)

-- ---- odd

odd_positive : (r : ℕ) → r < 2 → not (eqb r 0) ≡ eqb r 1
odd_positive zero h = refl
odd_positive (suc zero) h = refl
odd_positive (suc (suc r)) h = absurd (omega arith)

odd_negative : (r : ℕ) → r < 2 → not (eqb (of_z w64 (neg_ℤ (pos r))) 0) ≡ eqb r 1
odd_negative zero h = refl
odd_negative (suc zero) h = refl
odd_negative (suc (suc r)) h = absurd (omega arith)

pub odd : (n : ℤ) → not (eqb (of_z w64 (rem_z n (pos 2))) 0) ≡ oddℤ n
unfolding oddℤ
odd (pos n) = odd_positive (n % 2) (omega arith)
odd (negsuc n) = odd_negative (suc n % 2) (omega arith)
