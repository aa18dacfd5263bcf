-- Worked examples of the definitions, on bit patterns: each holds by computing both sides.
use Rattle.std.proofs.Common.{◌≡◌, refl}
use lib.Ieee.{binary64, of_bits}
use Rattle.leaves.specs.Root.{root_of}
use Rattle.leaves.specs.Round.{round_of}

-- round(2.5) = 3
pub round_two_and_a_half : round_of (of_bits binary64 0x4004000000000000) ≡ of_bits binary64 0x4008000000000000
unfolding round_of of_bits
round_two_and_a_half = refl

-- round(-2.5) = -3
pub round_minus_two_and_a_half : round_of (of_bits binary64 0xC004000000000000) ≡ of_bits binary64 0xC008000000000000
unfolding round_of of_bits
round_minus_two_and_a_half = refl

-- root(2) has the bits 3FF6A09E667F3BCD
pub root_two : root_of (of_bits binary64 0x4000000000000000) ≡ of_bits binary64 0x3FF6A09E667F3BCD
unfolding root_of of_bits
root_two = refl

-- root(2^−1074) = 2^−537
pub root_least : root_of (of_bits binary64 1) ≡ of_bits binary64 0x1E60000000000000
unfolding root_of of_bits
root_least = refl
