-- `leaves::square_root::root_of_even`: the engine's 54 digits, the last one rounded away and packed, are the root's
-- bits.
use Rattle.std.proofs.Common.{◌≡◌, ℕ, ◌+◌, ◌*◌, ◌/◌, ◌^◌, refl, ap, ◌∙◌, arith}
use lib.Ieee.{binary64, of_bits}
use Rattle.leaves.specs.Root.{whole_root, root_of}
use Rattle.leaves.specs.Engine.{radicand}
use Rattle.leaves.proofs.PackedRoots.{even_root, FirstDigits, first_digits}
use Rattle.leaves.proofs.Packing.{packed_number}
use Rattle.leaves.proofs.square_root.root_of_even.Goals as goal

-- the engine's radicand, and what its root is like
shifted : (s : ℕ) → radicand 0 54 (s * 2) ≡ s * 2 ^ 54
shifted s = omega arith

record Known (significand root : ℕ) : Type 0 where
  pub is : root ≡ whole_root (significand * 2 ^ 54)
  pub digits : FirstDigits significand

known : (c : goal.After-struct_known-1) → Known c.args.significand c.digits-found.result.root
known c = record {
  is = ap (λ r. r.root) c.digits-found.ensures ∙ ap whole_root (shifted c.args.significand);
  digits = first_digits c.args.significand c.requires.large c.requires.small;
}

pub overflow_add-result : goal.overflow_add-result
overflow_add-result c = let k = known c in omega (arith, k.is, k.digits.few)

pub float_from_bits-result : goal.float_from_bits-result
float_from_bits-result c =
    let k = known c in
    let d = k.digits in
    packed_number binary64 c.args.half _ (omega (arith, k.is, d.enough)) (omega (arith, k.is, d.few)) (omega (arith, c.requires.half_small))

pub returns : goal.returns
unfolding root_of
returns c =
    let k = known c in
    let d = k.digits in
    let significand = c.args.significand in
    let half = c.args.half in
    record {
      is = λ x v.
          ap (λ r. of_bits binary64 (half * 2 ^ 52 + (r + 1) / 2)) k.is
          ∙ even_root binary64 x significand half 54 2096 refl v d.enough d.few d.no_tie (omega (arith, c.requires.large)) (omega (arith, c.requires.half_small));
    }
