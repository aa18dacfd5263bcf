-- `leaves::square_root::root_above_zero`: the fields of the bits say what the value is, and each arm takes the root of
-- that fraction.
use Rattle.std.proofs.Common.{◌≡◌, ℕ, ◌+◌, ◌-◌, ◌/◌, ◌%◌, ◌^◌, ◌<◌, T, true, arith}
use Rattle.std.proofs.lemmas.Float.{T_from_true}
use lib.Ieee.{Float, binary64, of_bits, to_bits, lt, fits}
use Rattle.leaves.specs.Constants.{plus_zero}
use Rattle.leaves.specs.Root.{root_of}
use Rattle.leaves.proofs.Packing.{Unpacked, unpacked, above_zero}
use Rattle.leaves.proofs.PackedRoots.{lowered_power}
use Rattle.leaves.proofs.square_root.root_above_zero.Goals as goal

-- the fields of x's bits
fields : (x : Float) → fits binary64 x ≡ true → T (lt plus_zero x) → (to_bits binary64 x < 2 ^ 63) × Unpacked binary64 x (to_bits binary64 x / 2 ^ 52) (to_bits binary64 x % 2 ^ 52)
unfolding of_bits
fields x h p = unpacked binary64 x (T_from_true _ h) (above_zero x p)

pub root_of_subnormal-requires-clause-not_zero : goal.root_of_subnormal-requires-clause-not_zero
root_of_subnormal-requires-clause-not_zero c = ((fields c.args.x c.well_formed.0.1 c.requires).1.subnormal c.if-field-eq0.true).0

pub overflow_add-field : goal.overflow_add-field
overflow_add-field c = let b = (fields c.args.x c.well_formed.0.1 c.requires).0 in omega arith

pub root_of_scaled-requires-clause-exponent_small : goal.root_of_scaled-requires-clause-exponent_small
root_of_scaled-requires-clause-exponent_small c = let b = (fields c.args.x c.well_formed.0.1 c.requires).0 in omega (arith, c.if-field-eq2047.false)

pub returns-then-field-eq2047 : goal.returns-then-field-eq2047
unfolding root_of
returns-then-field-eq2047 c = let e = (fields c.args.x c.well_formed.0.1 c.requires).1.infinite c.if-field-eq2047.true in rw e

pub returns-then-field-eq0 : goal.returns-then-field-eq0
returns-then-field-eq0 c = c.root_of_subnormal.ensures.is c.args.x ((fields c.args.x c.well_formed.0.1 c.requires).1.subnormal c.if-field-eq0.true).1

pub returns-else-field-eq0 : goal.returns-else-field-eq0
returns-else-field-eq0 c =
    let x = c.args.x in
    let field = to_bits binary64 x / 2 ^ 52 in
    let t = to_bits binary64 x % 2 ^ 52 in
    let v = (fields x c.well_formed.0.1 c.requires).1.normal c.if-field-eq2047.false c.if-field-eq0.false in
    (lowered_power c.root_of_scaled.result (2 ^ 52 + t) (field - 1) 1022 (field + 1021) 1074 (step field c.if-field-eq0.false) c.root_of_scaled.ensures).is x v
  where
    step : (n : ℕ) → (n ≡ 0 → ⊥) → n + 1021 ≡ n - 1 + 1022
    step n h = omega arith
