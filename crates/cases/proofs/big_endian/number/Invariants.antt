-- n is the number of the first i bytes, and below 256^i, so that one byte more fits
use Rattle.std.proofs.Common.{◌≡◌, ◌^◌, ◌<◌}
use Rattle.cases.specs.BigEndian.{big}
use Rattle.cases.proofs.big_endian.number.Given as goal

abbrev pub invariant-loop-i : goal.invariant-loop-i
invariant-loop-i l = record { value : l.n ≡ big l.s l.at l.i; upper_bound : l.n < 256 ^ l.i }
