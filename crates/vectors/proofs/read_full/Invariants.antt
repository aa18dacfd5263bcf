-- the first n bytes of the buffer are what the file gave, and the measure is the room that is left
use Rattle.std.proofs.Common.{◌-◌, ◌≤◌, length, take}
use Rattle.std.specs.Io.KnownBytes.{Consumes}
use Rattle.vectors.proofs.read_full.Given as goal

abbrev pub invariant-loop-n : goal.invariant-loop-n
invariant-loop-n g l = record {
  in_bounds : l.n ≤ length l.buffer;
  bytes : Consumes (g.R.Read.remaining l.initial.file) (g.R.Read.remaining l.file) (take l.n l.buffer);
}

abbrev pub decreases-loop-n : goal.decreases-loop-n
decreases-loop-n g l = length l.initial.buffer - l.n
