-- `round_fallback::cylinder::keep` is `kept_of`, over the front of the list. The invariant: the first `count` of the
-- list, then those kept of the numbers from the k-th on after the last one, are all that are kept. A number that is not
-- near the last one is stored behind them, one that is near is passed.
use Rattle.std.proofs.Common.{◌≡◌, ◌<◌, length, get_or, rules, arith, sym, ◌∙◌}
use lib.Ieee.{nan}
use Rattle.round_fallback.proofs.Kept.{kept_none, kept_first, kept_near, kept_next, kept_end}
use Rattle.round_fallback.proofs.cylinder.keep.Goals as goal
use Rattle.round_fallback.proofs.cylinder.keep.Goals.{then-not-is_near, else-not-is_near}

pub returns-in_default : goal.returns-in_default
returns-in_default c = kept_none c.args.sorted.now (search rules)

pub loop-k-init : goal.loop-k-init
loop-k-init c =
    let xs = c.args.sorted.now in
    let room : 0 < length xs = search rules in
    let first : c.in-Some.first.now ≡ get_or xs 0 nan = search rules in
    (omega arith, rw first (kept_first xs room))

pub loop-k-preserved : goal.loop-k-preserved
loop-k-preserved c =
    let l = c.loop-k in
    elim c.if-not-is_near.branch [
      | then-not-is_near w ↦ (
        rw w.count-is (omega arith),
        rw (w.sorted-is, w.last-is, w.count-is) (sym (kept_next l.sorted l.last l.count l.k (omega arith) (omega arith) (sym c.is_near.ensures ∙ w.if-not-is_near.true)) ∙ l.invariant.1),
      )
      | else-not-is_near w ↦ (
        rw w.count-is (omega arith),
        rw (w.sorted-is, w.last-is, w.count-is) (sym (kept_near l.sorted l.last l.count l.k (omega arith) (sym c.is_near.ensures ∙ w.if-not-is_near.false)) ∙ l.invariant.1),
      )
    ]

pub returns : goal.returns
returns c = let l = c.loop-k in sym (kept_end l.sorted l.last l.count l.k (omega arith)) ∙ l.invariant.1
