-- The grid's columns go up and have no sign; and what the code's test tells of a period and a middle: the period is
-- finite and above 0, the middle is finite.
use mathlib.Core.Path.{◌≡◌, refl, sym, ap, ◌∙◌, subst}
use mathlib.Core.Bool.{Bool, true, false, not, ◌&&◌}
use Prim.Native.Nat.{ℕ, ◌≤◌}
use native.Mathlib.Omega.{arith}
use lib.Dec.{T}
use lib.IntN.{pos}
use lib.Ieee.{Float, nan, inf, fin, binary64, of_bits, of_int, neg, div, lt, le}
use lib.Ieee.Fits.{and_l, and_r}
use lib.Ieee.Order.{round_mono}
use lib.Ieee.Positive.{positive}
use lib.Ieee.Scale.{finite}
use Rattle.leaves.specs.Constants.{plus_zero, greatest_finite}
use Rattle.leaves.proofs.Monotone.{float_div_mono}
use Rattle.leaves.proofs.Order.{within_finite}
use Rattle.leaves.proofs.Scaling.{div_of_inf, div_sign, positive_of_lt}
use Rattle.leaves.proofs.Signs.{round_sign}
use Rattle.leaves.proofs.Values.{sign}
use Rattle.answers.specs.Limits.{beyond}
use Rattle.points.specs.Grid.{thirty_two, part}
use Rattle.points.specs.Turns.{keeps_order}

-- ---- the columns

thirty_two_lem : T (positive thirty_two)
unfolding of_bits
thirty_two_lem = tt

-- they go up
pub part_up : (i j : ℕ) → i ≤ j → T (le (part i) (part j))
unfolding part of_int
part_up i j h = float_div_mono binary64 (of_int binary64 (pos i)) (of_int binary64 (pos j)) thirty_two thirty_two_lem (round_mono binary64 i 1 j 1 (omega arith) (omega arith) (omega arith))

-- and have no sign
pub part_plain : (i : ℕ) → sign (part i) ≡ false
unfolding part of_int
part_plain i = go (of_int binary64 (pos i)) (round_sign binary64 false i 1)
  where
    go : (x : Float) → sign x ≡ false → sign (div binary64 x thirty_two) ≡ false
    go nan h = unfold div in refl
    go (inf s) h = ap sign (div_of_inf binary64 thirty_two thirty_two_lem s) ∙ h
    go (fin s m e) h = div_sign binary64 thirty_two thirty_two_lem s m e ∙ h

-- ---- tests

pub holds : (t : Bool) → t ≡ true → T t
holds true e = tt
holds false e = absurd (subst T (sym e) tt)

within : (limit x : Float) → T (not (beyond limit x)) → T (le (neg limit) x && le x limit)
unfolding beyond
within limit x h = twice (le (neg limit) x && le x limit) h
  where
    twice : (t : Bool) → T (not (not t)) → T t
    twice true h = tt
    twice false h = h

greatest_finite_lem : T (finite greatest_finite)
unfolding of_bits
greatest_finite_lem = tt

pub finite_of : (x : Float) → T (not (beyond greatest_finite x)) → T (finite x)
finite_of x h =
    let w = within greatest_finite x h in
    within_finite greatest_finite x greatest_finite_lem (and_l (le (neg greatest_finite) x) (le x greatest_finite) w) (and_r (le (neg greatest_finite) x) (le x greatest_finite) w)

-- ---- where the turns go with the columns

module _ (period mid : Float) (ordered : T (keeps_order period mid)) where
  pub record Numbers : Type 0 where
    pub above : T (positive period)
    pub centre : T (finite mid)

  pub numbers : Numbers
  unfolding keeps_order
  numbers =
      let t = and_r (lt plus_zero period) _ ordered in
      record {
        above = positive_of_lt period (finite_of period (and_l (not (beyond greatest_finite period)) _ t)) (and_l (lt plus_zero period) _ ordered);
        centre = finite_of mid (and_r (not (beyond greatest_finite period)) _ t);
      }
