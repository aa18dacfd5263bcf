-- `leaves::square_root::root` is `root_of`: above zero by `root_above_zero`, below it a NaN, and zeros and a NaN
-- themselves.
use Rattle.std.proofs.Common.{sym}
use Rattle.std.proofs.lemmas.Float.{T_from_true, T_from_false}
use lib.Ieee.{binary64, of_bits, div}
use Rattle.leaves.specs.Root.{root_of}
use Rattle.leaves.proofs.RootCases.{root_negative, root_itself}
use Rattle.leaves.proofs.square_root.root.Goals as goal

pub returns-then-x-2 : goal.returns-then-x-2
unfolding root_of of_bits div
returns-then-x-2 c = sym (root_negative binary64 c.args.x (T_from_true _ c.if-x-2.true))

pub returns-else-x-2 : goal.returns-else-x-2
unfolding root_of of_bits
returns-else-x-2 c =
    sym (root_itself binary64 c.args.x (T_from_false _ c.if-x.false) (T_from_false _ c.if-x-2.false))
