-- `leaves::remainder::rest_from_tau`: the bits give the value in 2 ^ -50ths; what is left of these is the remainder.
use Rattle.std.proofs.Common.{◌≡◌, ℕ, ◌/◌, ◌%◌, ◌^◌, ◌<◌, T, true, sym, ◌∙◌, mod-lt, lt_of_lt_of_le, lit<, lit≤}
use Rattle.std.proofs.lemmas.Float.{T_from_true}
use lib.Ieee.{Float, binary64, to_bits, fits, le, of_bits, div}
use Rattle.leaves.specs.Constants.{tau}
use Rattle.leaves.proofs.Remainders.{FromTau, from_tau, parts_value}
use Rattle.leaves.proofs.remainder.rest_from_tau.Goals as goal

read : (x : Float) → fits binary64 x ≡ true → T (le tau x) → FromTau x (to_bits binary64 x / 2 ^ 52) (to_bits binary64 x % 2 ^ 52)
read x h l = from_tau x (T_from_true _ h) l

few : (n a : ℕ) → n ≡ a % 7074237752028440 → n < 2 ^ 53
few n a e = rw e (lt_of_lt_of_le (mod-lt a (lit< tt)) (lit≤ tt))

pub returns-then-field-eq2047 : goal.returns-then-field-eq2047
unfolding div of_bits
returns-then-field-eq2047 c = sym ((read c.args.x c.well_formed.0.1 c.requires).infinite c.if-field-eq2047.true)

pub overflow_sub-field : goal.overflow_sub-field
overflow_sub-field c = (read c.args.x c.well_formed.0.1 c.requires).least c.if-field-eq2047.false

pub returns : goal.returns
returns c =
    parts_value c.parts_left.result (few _ _ c.parts_left.ensures)
    ∙ rw c.parts_left.ensures (sym ((read c.args.x c.well_formed.0.1 c.requires).remainder c.if-field-eq2047.false))
