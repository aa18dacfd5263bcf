-- `search::leader::Leader::column` is `column` of the specs. The loop's invariant: the column from j on, from the
-- candidate found so far, gives the whole answer; and at most one grid point is counted for each j passed. A turn
-- visits one grid point.
use Rattle.std.proofs.Common.{◌≡◌, sym, ap, ◌∙◌, arith}
use Rattle.search.specs.Chosen.{covered_at, clear_to}
use Rattle.search.specs.Search.{visit}
use Rattle.search.specs.declared.leader.Leader.{Leader}
use Rattle.search.proofs.Visits.{visit_covered, visit_passed, visit_count, column_start, column_step, column_end}
use Rattle.search.proofs.leader.Leader.column.Goals as goal
use Rattle.search.proofs.leader.Leader.column.Goals.{then-is_covered, else-is_covered}

pub loop-j-preserved : goal.loop-j-preserved
loop-j-preserved c =
    let x = c.args in
    let l = c.loop-j in
    let f = covered_at x.covered.now in
    let g = clear_to x.list.now in
    let v : c.if-is_covered.found.best ≡ visit f g x.i l.found.best l.j = elim c.if-is_covered.branch [
      | then-is_covered w ↦ ap (λ (n : Leader). n.best) w.found-is ∙ w.meet-found.ensures ∙ sym (visit_covered f g x.i l.j l.found.best (sym c.is_covered.ensures ∙ w.if-is_covered.true))
      | else-is_covered w ↦ ap (λ (n : Leader). n.best) w.found-is ∙ sym (visit_passed f g x.i l.j l.found.best (sym c.is_covered.ensures ∙ w.if-is_covered.false))
    ] in
    rw v (omega (arith, visit_count f g x.i l.j l.found.best), sym (column_step f g x.i l.found.best l.j (omega arith)) ∙ l.invariant.1)

pub returns : goal.returns
returns c =
    let x = c.args in
    let l = c.loop-j in
    let f = covered_at x.covered.now in
    let g = clear_to x.list.now in
    (sym (column_end f g x.i l.found.best l.j (omega arith)) ∙ l.invariant.1 ∙ column_start f g x.i x.self.best, omega arith)
