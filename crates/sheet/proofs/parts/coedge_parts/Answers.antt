use Rattle.std.proofs.Common.{arith}
use Rattle.sheet.specs.Layout.{coedge_size, coedge_parts}
use Rattle.sheet.proofs.Cuts.{cut_length}
use Rattle.sheet.proofs.parts.coedge_parts.Goals as goal

pub returns-clause-parts : goal.returns-clause-parts
unfolding coedge_parts
returns-clause-parts c = rw (c.parted.ensures.back, c.byte_at.ensures)

pub returns-clause-most : goal.returns-clause-most
returns-clause-most c = omega (arith, cut_length (coedge_size c.args.version) c.byte_at.result c.parted.result.1.now)
