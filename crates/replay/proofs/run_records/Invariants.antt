-- no more records are counted than turns
use Rattle.std.proofs.Common.{◌≤◌}
use Rattle.replay.proofs.run_records.Given as goal

abbrev pub invariant-loop : goal.invariant-loop
invariant-loop g l = l.tally.read ≤ l.counter
