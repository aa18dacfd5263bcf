-- `vectors::constants_have_their_bits`: each constant has the bits that are written there, by computation.
use Rattle.std.proofs.Common.{refl}
use lib.Ieee.{of_bits, to_bits}
use Rattle.vectors.proofs.constants_have_their_bits.Goals as goal

pub returns : goal.returns
unfolding to_bits of_bits
returns c = rw c.have_bits.ensures refl
