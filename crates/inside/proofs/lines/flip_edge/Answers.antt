-- `inside::lines::flip_edge` flips what the edge flips: the rows between the two counts are those that part a from b,
-- whichever count is less.
use native.Mathlib.Omega.{arith}
use Rattle.inside.proofs.Ascending.{parted_up, parted_down}
use Rattle.inside.proofs.lines.flip_edge.Goals as goal

pub flip_rows-requires : goal.flip_rows-requires
flip_rows-requires c = parted_up c.args.a.counted c.args.b.counted (omega arith)

pub flip_rows-requires-else-a-b : goal.flip_rows-requires-else-a-b
flip_rows-requires-else-a-b c = parted_down c.args.a.counted c.args.b.counted (omega arith)
