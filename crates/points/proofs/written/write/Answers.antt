-- `points::written::write` is `written_point` on every point, over the front of the list.
use Rattle.std.proofs.Common.{sym, ap, map, refl, arith, ◌≡◌, ◌+◌, ◌*◌}
use Rattle.std.proofs.lemmas.List.{drop_more, drop_all}
use Rattle.answers.proofs.Over.{over_short}
use Rattle.sheet.specs.Content.{flat}
use Rattle.points.specs.Written.{written_point}
use Rattle.points.proofs.Flat.{changed_room}
use Rattle.points.proofs.InPlace.{none_written, item_written, over_written}
use Rattle.points.proofs.written.write.Goals as goal

pub returns-then-out-points : goal.returns-then-out-points
returns-then-out-points c = sym (over_short _ c.args.out.now (omega (arith, changed_room (written_point c.args.phase) c.args.points.now)))

pub loop-k-init : goal.loop-k-init
loop-k-init c = none_written _ _

pub loop-k-preserved : goal.loop-k-preserved
unfolding flat written_point
loop-k-preserved c =
    let a = c.args in
    let k = c.loop-k.k in
    let n : 2 * (k + 1) ≡ 2 * k + 1 + 1 = omega arith in
    rw (n, c.phase_angle-angle.ensures)
    (item_written (item_written c.loop-k.invariant _ _ (ap (λ ps. flat (map (written_point a.phase) ps)) (drop_more a.points.now k _ (omega arith))) (omega arith)) _ _ refl (omega arith))

pub returns : goal.returns
unfolding flat
returns c =
    let a = c.args in
    over_written c.loop-k.invariant (ap (λ ps. flat (map (written_point a.phase) ps)) (drop_all c.loop-k.k a.points.now (omega arith))) (omega (arith, changed_room (written_point a.phase) a.points.now)) (omega arith)
