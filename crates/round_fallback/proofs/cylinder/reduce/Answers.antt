-- `round_fallback::cylinder::reduce` is `rem_tau` of every angle, over the list.
use Rattle.std.proofs.Common.{ap, map, arith}
use Rattle.std.proofs.lemmas.List.{drop_more, drop_all}
use Rattle.leaves.specs.Wrap.{rem_tau}
use Rattle.points.proofs.InPlace.{none_written, item_written, all_filled}
use Rattle.round_fallback.proofs.cylinder.reduce.Goals as goal

pub loop-k-init : goal.loop-k-init
loop-k-init c = none_written _ _

pub loop-k-preserved : goal.loop-k-preserved
loop-k-preserved c =
    item_written c.loop-k.invariant _ _ (rw c.rem_tau.ensures (ap (map rem_tau) (drop_more c.args.angles.now c.loop-k.k _ (omega arith)))) (omega arith)

pub returns : goal.returns
returns c = all_filled c.loop-k.invariant (ap (map rem_tau) (drop_all c.loop-k.k c.args.angles.now (omega arith))) (omega arith)
