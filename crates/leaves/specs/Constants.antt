-- Document 01, "Number leaves": PI and TAU by their bits. Every decimal constant of document 01, and of the Rust that
-- it leans on, as its fraction rounded once.
use Rattle.std.specs.Prelude.{ℕ, ◌^◌, false, from_bits, Float}
use Rattle.std.specs.Float.{binary64}
use Rattle.std.specs.Float.Ieee.{round}

abbrev pub plus_zero : Float
plus_zero = from_bits binary64 0

abbrev pub one : Float
one = from_bits binary64 0x3FF0000000000000

abbrev pub pi : Float
pi = from_bits binary64 0x400921FB54442D18

abbrev pub tau : Float
tau = from_bits binary64 0x401921FB54442D18

-- the greatest finite number
abbrev pub greatest_finite : Float
greatest_finite = from_bits binary64 0x7FEFFFFFFFFFFFFF

-- digits / 10 ^ places, rounded once
unfoldable pub decimal : ℕ → ℕ → Float
unfolding round
decimal digits places = round binary64 false digits (10 ^ places)

-- 0.002; refusal 7: a deviation is below it
unfoldable pub deviation_limit : Float
unfolding decimal
deviation_limit = decimal 2 3

-- 1e-12; refusal 12: a scale is above it
unfoldable pub scale_limit : Float
unfolding decimal
scale_limit = decimal 1 12

-- 1e-4; refusal 13: a join is at most it; the direction test: both ends lie nearer than it
unfoldable pub join_limit : Float
unfolding decimal
join_limit = decimal 1 4

-- 0.01; refusal 14: the clearance of the chosen grid point is above it
unfoldable pub clearance_limit : Float
unfolding decimal
clearance_limit = decimal 1 2

-- 1e-7; refusal 15: the physical clearance is above it
unfoldable pub physical_limit : Float
unfolding decimal
physical_limit = decimal 1 7

-- 1e-6; the triangle's circles and triple products, the round fallback's spread, angles and gap
unfoldable pub micro : Float
unfolding decimal
micro = decimal 1 6

-- 1e-5; the triangle's ends
unfoldable pub end_limit : Float
unfolding decimal
end_limit = decimal 1 5

-- 1e-9; PARALLEL of sketch.rs
unfoldable pub parallel : Float
unfolding decimal
parallel = decimal 1 9

-- 1e-18; `point_on` of faces.rs: a corner is degenerate below it
unfoldable pub degenerate_limit : Float
unfolding decimal
degenerate_limit = decimal 1 18
