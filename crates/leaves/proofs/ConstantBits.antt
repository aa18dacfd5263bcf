-- Each decimal constant has the bits of the nearest f64, which are those that the code's literal shows; so has
-- infinity. By computation.
use Rattle.std.proofs.Common.{◌≡◌, ◌^◌, false, T, refl}
use lib.Ieee.{binary64, inf, of_bits, fits, lt}
use lib.Ieee.Fits.{round-fits}
use Rattle.leaves.specs.Constants.{plus_zero, decimal, deviation_limit, scale_limit, join_limit, clearance_limit, physical_limit, micro, end_limit, parallel, degenerate_limit}

pub deviation_limit_bits : deviation_limit ≡ of_bits binary64 0x3F60624DD2F1A9FC
unfolding deviation_limit of_bits
deviation_limit_bits = refl

pub scale_limit_bits : scale_limit ≡ of_bits binary64 0x3D719799812DEA11
unfolding scale_limit of_bits
scale_limit_bits = refl

pub join_limit_bits : join_limit ≡ of_bits binary64 0x3F1A36E2EB1C432D
unfolding join_limit of_bits
join_limit_bits = refl

pub clearance_limit_bits : clearance_limit ≡ of_bits binary64 0x3F847AE147AE147B
unfolding clearance_limit of_bits
clearance_limit_bits = refl

pub physical_limit_bits : physical_limit ≡ of_bits binary64 0x3E7AD7F29ABCAF48
unfolding physical_limit of_bits
physical_limit_bits = refl

pub micro_bits : micro ≡ of_bits binary64 0x3EB0C6F7A0B5ED8D
unfolding micro of_bits
micro_bits = refl

pub end_limit_bits : end_limit ≡ of_bits binary64 0x3EE4F8B588E368F1
unfolding end_limit of_bits
end_limit_bits = refl

pub parallel_bits : parallel ≡ of_bits binary64 0x3E112E0BE826D695
unfolding parallel of_bits
parallel_bits = refl

pub degenerate_limit_bits : degenerate_limit ≡ of_bits binary64 0x3C32725DD1D243AC
unfolding degenerate_limit of_bits
degenerate_limit_bits = refl

-- infinity, which has no literal, is std's constant of these bits
pub infinity_bits : of_bits binary64 0x7FF0000000000000 ≡ inf false
unfolding of_bits
infinity_bits = refl

-- ---- the limit of refusal 14: a value of the format, and 0 is not above it

pub clearance_limit_fits : T (fits binary64 clearance_limit)
unfolding clearance_limit decimal
clearance_limit_fits = round-fits binary64 false 1 (10 ^ 2)

pub clearance_limit_positive : lt clearance_limit plus_zero ≡ false
unfolding lt clearance_limit of_bits
clearance_limit_positive = refl
