-- `clearance::nearest::Asked::scan` is the larger of `bar` and the least key. The loop's invariant: the least over the
-- segments that are left, from the least so far, is the least of all.
-- A turn takes one segment. One whose key is not above `bar` settles the answer.
use Rattle.std.proofs.Common.{rules, refl, sym, ap, ◌∙◌, arith}
use Rattle.std.specs.Float.Ieee.{of_bits}
use Rattle.std.proofs.lemmas.List.{drop_more, drop_all}
use Rattle.leaves.specs.Bounds.{larger_of}
use Rattle.clearance.specs.Nearest.{least_key}
use Rattle.clearance.proofs.Stops.{least_none, least_nearer, least_farther, stopped, stops_here}
use Rattle.clearance.proofs.nearest.Asked.scan.Goals as goal
use Rattle.clearance.proofs.nearest.Asked.scan.Goals.{then-key-least+else-key-bar, else-key-least}

pub loop-k-init : goal.loop-k-init
unfolding of_bits
loop-k-init c = refl

pub returns-then-key-bar : goal.returns-then-key-bar
returns-then-key-bar c =
    let x = c.args.self in
    stopped x.p x.bar c.loop-k.k x.list.now (search (rules, c.well_formed)) (stops_here x.p x.bar c.straight_key-key.result _ x.list.now c.loop-k.k (omega arith) c.straight_key-key.ensures c.if-key-bar.true)

pub loop-k-preserved : goal.loop-k-preserved
loop-k-preserved c =
    let x = c.args.self in
    let l = c.loop-k in
    let key = c.straight_key-key in
    elim c.if-key-least.branch [
      | then-key-least+else-key-bar w ↦ rw w.least-is (sym (ap (least_key x.p l.least) (drop_more x.list.now l.k _ (omega arith)) ∙ least_nearer x.p l.least key.result _ _ key.ensures w.if-key-least.true) ∙ l.invariant)
      | else-key-least w ↦ rw w.least-is (sym (ap (least_key x.p l.least) (drop_more x.list.now l.k _ (omega arith)) ∙ least_farther x.p l.least key.result _ _ key.ensures w.if-key-least.false) ∙ l.invariant)
    ]

pub returns : goal.returns
returns c =
    let x = c.args.self in
    let l = c.loop-k in
    c.larger_of.ensures ∙ ap (larger_of x.bar) (sym (ap (least_key x.p l.least) (drop_all l.k x.list.now (omega arith)) ∙ least_none x.p l.least) ∙ l.invariant)
