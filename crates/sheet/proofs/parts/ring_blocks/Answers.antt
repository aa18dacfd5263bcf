use Rattle.sheet.specs.Layout.{blocks}
use Rattle.sheet.proofs.parts.ring_blocks.Goals as goal

pub returns : goal.returns
unfolding blocks
returns c = rw (c.parted.ensures.back, c.head_size.ensures, c.kind_of.ensures, c.byte_at.ensures, c.version_of.ensures)
