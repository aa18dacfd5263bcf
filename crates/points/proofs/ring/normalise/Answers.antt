-- `points::ring::normalise` is `normal` on every point.
use Rattle.std.proofs.Common.{arith}
use Rattle.std.proofs.lemmas.List.{get_or_default}
use Rattle.std.proofs.lemmas.List.Edits.{map_over_more}
use Rattle.points.specs.Normalise.{normal}
use Rattle.points.proofs.ring.normalise.Goals as goal

pub loop-p-preserved : goal.loop-p-preserved
loop-p-preserved c =
    let a = c.args in
    rw c.normal.ensures (map_over_more (normal a.least.u a.least.v a.scale.u a.scale.v) _ _ _ _ (omega arith) c.loop-p.invariant (get_or_default c.loop-p.points c.loop-p.p-index _ _ (omega arith)))
