use Rattle.leaves.specs.Engine.{radicand}
use Rattle.leaves.proofs.DigitSteps.{Found}
use Rattle.leaves.proofs.square_root.digits.Given as goal

abbrev pub invariant-loop-place : goal.invariant-loop-place
invariant-loop-place l = Found (radicand l.root l.places l.rest) l.found l.left l.place
