-- `vertices::Axes::flatten` writes the corners on the axes over the list. The invariant: of the flattened corners the
-- first are written, and those that the iterator has yet to give are left. The list has room for just all of them.
use Rattle.std.proofs.Common.{arith, sym, ap, ◌∙◌, ◌∷◌, map, length}
use Rattle.points.proofs.InPlace.{none_written, item_written, all_filled}
use Rattle.space.specs.Places.{places_left}
use Rattle.vertex_fallback.specs.Vertices.{flattened}
use Rattle.vertex_fallback.proofs.Serving.{left_count, none_left}
use Rattle.vertex_fallback.proofs.vertices.Axes.flatten.Goals as goal
use Rattle.vertex_fallback.proofs.vertices.Axes.flatten.Goals.{in-Some, in_default}

pub loop-p-init : goal.loop-p-init
loop-p-init c = none_written _ _

pub loop-p-preserved : goal.loop-p-preserved
loop-p-preserved c =
    let f = flattened c.args.self.u c.args.self.v in
    let left = map f (places_left c.next.new.self) in
    elim c.match-next.branch [
      | in-Some w ↦ rw w.ring-is (item_written c.loop-p.invariant w.flattened.result left (ap (map f) w.in-Some.ensures.steps ∙ (λ i. sym w.flattened.ensures i ∷ left)) (omega arith))
      | in_default w ↦ absurd (omega (arith, left_count c.args.corners.now (places_left c.loop-p.places) f c.loop-p.invariant, ap length w.in_default.ensures.steps.0))
    ]

pub returns : goal.returns
returns c =
    let f = flattened c.args.self.u c.args.self.v in
    all_filled c.loop-p.invariant (none_left c.args.corners.now (places_left c.loop-p.places) f c.loop-p.invariant (omega arith)) (omega arith)
