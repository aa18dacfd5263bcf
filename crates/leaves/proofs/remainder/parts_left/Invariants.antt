use Rattle.std.proofs.Common.{◌≡◌, ◌*◌, ◌%◌, ◌^◌}
use Rattle.leaves.proofs.remainder.parts_left.Given as goal

-- so many doublings are made, and reduced
abbrev pub invariant-loop-step : goal.invariant-loop-step
invariant-loop-step l = l.left ≡ l.number * 2 ^ l._step % 7074237752028440
