-- total is the sum of the first k places, modulo 2^64
use Rattle.std.proofs.Common.{◌≡◌, ◌%◌, ◌^◌, take}
use Rattle.cases.specs.Places.{weighted}
use Rattle.cases.proofs.list.check_sum.Given as goal

abbrev pub invariant-loop-k : goal.invariant-loop-k
invariant-loop-k l = l.total ≡ weighted 1 (take l.k l.list) % 2 ^ 64
