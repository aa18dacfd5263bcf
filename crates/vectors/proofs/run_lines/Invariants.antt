-- no more are wrong than were read
use Rattle.std.proofs.Common.{◌≤◌}
use Rattle.vectors.proofs.run_lines.Given as goal

abbrev pub invariant-loop-read : goal.invariant-loop-read
invariant-loop-read g l = l.wrong ≤ l.read
