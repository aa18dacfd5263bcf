-- `points::ring::mark_coedge` marks the first point alone.
use Rattle.std.proofs.Common.{arith}
use Rattle.std.proofs.lemmas.List.{drop_all}
use Rattle.points.proofs.InPlace.{none_written, item_written, all_filled}
use Rattle.points.proofs.Marks.{length_first_only, mark_left}
use Rattle.points.proofs.ring.mark_coedge.Goals as goal

pub loop-k-init : goal.loop-k-init
loop-k-init c = none_written _ _

pub loop-k-preserved : goal.loop-k-preserved
loop-k-preserved c = item_written c.loop-k.invariant _ _ (mark_left _ c.loop-k.k (omega arith)) (omega arith)

pub returns : goal.returns
returns c = all_filled c.loop-k.invariant (drop_all c.loop-k.k _ (omega (arith, length_first_only))) (omega arith)
