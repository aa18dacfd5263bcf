-- Document 01, "Sheet": "Big-endian", of a number that is written.
use Rattle.std.specs.Prelude.{List, ℕ, Float}
use Rattle.std.specs.Float.{binary64}
use Rattle.std.specs.Float.Ieee.{to_bits}
use Rattle.std.specs.Int.{to_be_bytes, w64}

-- an f64 in eight bytes
unfoldable pub number_bytes : Float → List ℕ
unfolding to_bits
number_bytes x = to_be_bytes w64 (to_bits binary64 x)
