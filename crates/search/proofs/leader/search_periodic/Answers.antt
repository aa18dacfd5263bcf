-- `search::leader::search_periodic` is the choice from the segments' copies. The loop's invariant: the grid from i on,
-- from the best so far, gives the whole answer; at most 31 grid points are counted for each i passed; and the copies
-- are ready for column i. A turn renews the copies and takes one column.
use Rattle.std.proofs.Common.{Some, sym, ap, ◌∙◌, arith}
use Rattle.clearance.specs.SegmentLists.{copies_at}
use Rattle.search.specs.declared.candidate.Candidate.{Candidate}
use Rattle.search.proofs.Chosen.{choice_start, choice_step, choice_end}
use Rattle.search.proofs.leader.search_periodic.Goals as goal

pub loop-i-init : goal.loop-i-init
loop-i-init c =
    let e = c.nobody-found.ensures in
    (omega (arith, ap (λ (b : Candidate). b.count) e), c.requires.2, choice_start (Some c.args.period) c.args.list.now c.args.covered.now e)

pub loop-i-preserved : goal.loop-i-preserved
unfolding copies_at
loop-i-preserved c =
    let l = c.loop-i in
    let n = c.renew in
    let r = c.column-found in
    (omega (arith, r.ensures.1), n.ensures.1, choice_step (Some c.args.period) c.args.list.now c.args.covered.now n.new.copies l.i l.found.best n.ensures.0 (omega arith) r.ensures.0 ∙ l.invariant.2)

pub returns : goal.returns
returns c = let l = c.loop-i in sym (choice_end (Some c.args.period) c.args.list.now c.args.covered.now l.found.best l.i (omega arith)) ∙ l.invariant.2
