-- the first k places hold their numbers
use Rattle.std.proofs.Common.{◌≡◌, take}
use Rattle.cases.specs.Places.{loaded}
use Rattle.cases.proofs.list.load.Given as goal

abbrev pub invariant-loop-k : goal.invariant-loop-k
invariant-loop-k l = take l.k l.list ≡ loaded l.k l.numbers
