-- the first n bytes of the buffer are what the file gave, the others as they were, and the measure is the room that is
-- left
use Rattle.std.proofs.Common.{◌≡◌, ◌-◌, ◌≤◌, length, take, drop}
use Rattle.std.specs.Io.KnownBytes.{Consumes}
use Rattle.cases.proofs.reading.read_full.Given as goal

abbrev pub invariant-loop-n : goal.invariant-loop-n
invariant-loop-n g l = record {
  in_bounds : l.n ≤ length l.buffer;
  bytes : Consumes (g.R.Read.remaining l.initial.file) (g.R.Read.remaining l.file) (take l.n l.buffer);
  rest : drop l.n l.buffer ≡ drop l.n l.initial.buffer;
}

abbrev pub decreases-loop-n : goal.decreases-loop-n
decreases-loop-n g l = length l.initial.buffer - l.n
