-- `search::leader::search_plain` is the choice from the segments themselves. The loop's invariant: the grid from i on,
-- from the best so far, gives the whole answer; and at most 31 grid points are counted for each i passed. A turn takes
-- one column.
use Rattle.std.proofs.Common.{None, refl, sym, ap, ◌∙◌, arith}
use Rattle.clearance.specs.SegmentLists.{copies_at}
use Rattle.search.specs.declared.candidate.Candidate.{Candidate}
use Rattle.search.proofs.Chosen.{choice_start, choice_step, choice_end}
use Rattle.search.proofs.leader.search_plain.Goals as goal

pub loop-i-init : goal.loop-i-init
loop-i-init c =
    let e = c.nobody-found.ensures in
    (omega (arith, ap (λ (b : Candidate). b.count) e), choice_start None c.args.list.now c.args.covered.now e)

pub loop-i-preserved : goal.loop-i-preserved
unfolding copies_at
loop-i-preserved c =
    let l = c.loop-i in
    let r = c.column-found in
    (omega (arith, r.ensures.1), choice_step None c.args.list.now c.args.covered.now c.args.list.now l.i l.found.best refl (omega arith) r.ensures.0 ∙ l.invariant.1)

pub returns : goal.returns
returns c = let l = c.loop-i in sym (choice_end None c.args.list.now c.args.covered.now l.found.best l.i (omega arith)) ∙ l.invariant.1
