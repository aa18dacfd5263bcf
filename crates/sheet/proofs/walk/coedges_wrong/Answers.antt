-- `sheet::walk::coedges_wrong` says whether check 6 fails. The invariant: it fails on the rings that are left, with
-- `total` coedges counted before them, as on all. A ring with no coedge ends the loop, another adds its count.
use Rattle.std.proofs.Common.{◌≡◌, sym, ◌∙◌, arith, ap, length}
use Rattle.sheet.specs.Layout.{sheet_of}
use Rattle.sheet.proofs.Checked.{ring_number}
use Rattle.sheet.proofs.Walks.{wrong_start, wrong_found, wrong_passed}
use Rattle.sheet.proofs.walk.coedges_wrong.Goals as goal

pub loop-ring-init : goal.loop-ring-init
loop-ring-init c =
    let s = c.args.s.now in
    let all : c.into_iter-ring-iterator.result ≡ (sheet_of s).rings = c.into_iter-ring-iterator.ensures.into_iter_gives ∙ c.rings-ring-items.ensures in
    let seventh = c.type_inv.s 7 in
    rw all (tt, tt, omega (arith, ring_number s), wrong_start (sheet_of s).rings)

pub returns-then-count-eq0 : goal.returns-then-count-eq0
returns-then-count-eq0 c =
    sym (wrong_found c.loop-ring.total c.in-Some.ensures.steps (sym c.coedge_count-count.ensures.count ∙ c.if-count-eq0.true)) ∙ c.loop-ring.invariant.3

pub loop-ring-preserved : goal.loop-ring-preserved
loop-ring-preserved c =
    let left = ap length c.in-Some.ensures.steps in (
      tt,
      tt,
      omega (arith, c.coedge_count-count.ensures.most),
      rw c.coedge_count-count.ensures.count
          (sym (wrong_passed c.loop-ring.total c.in-Some.ensures.steps (λ z. c.if-count-eq0.false (c.coedge_count-count.ensures.count ∙ z))) ∙ c.loop-ring.invariant.3),
    )
