-- `points::ring::normalise_into` is `normal` on every point, over the front of the list.
use Rattle.std.proofs.Common.{sym, ap, map, arith}
use Rattle.std.proofs.lemmas.List.{length-map, drop_more, drop_all}
use Rattle.answers.proofs.Over.{over_short}
use Rattle.points.specs.Normalise.{normal}
use Rattle.points.proofs.InPlace.{none_written, item_written, over_written}
use Rattle.points.proofs.ring.normalise_into.Goals as goal

pub returns-then-out-points : goal.returns-then-out-points
returns-then-out-points c = sym (over_short _ c.args.out.now (simp length-map (omega arith)))

pub loop-k-init : goal.loop-k-init
loop-k-init c = none_written _ _

pub loop-k-preserved : goal.loop-k-preserved
loop-k-preserved c =
    let a = c.args in
    item_written c.loop-k.invariant _ _ (rw c.normal.ensures (ap (map (normal a.least.u a.least.v a.scale.u a.scale.v)) (drop_more a.points.now c.loop-k.k _ (omega arith)))) (omega arith)

pub returns : goal.returns
returns c =
    let a = c.args in
    over_written c.loop-k.invariant (ap (map (normal a.least.u a.least.v a.scale.u a.scale.v)) (drop_all c.loop-k.k a.points.now (omega arith))) (simp length-map (omega arith)) (omega arith)
