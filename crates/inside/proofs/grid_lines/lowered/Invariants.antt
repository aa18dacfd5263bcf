use Rattle.inside.specs.Lines.{NoneAfter}
use Rattle.inside.proofs.grid_lines.lowered.Given as goal

abbrev pub invariant-loop-count : goal.invariant-loop-count
invariant-loop-count l = NoneAfter l.x l.count
