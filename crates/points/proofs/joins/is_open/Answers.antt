-- `points::joins::is_open` is `ring_open`: the first point is too far from the last, or a marked one from the one
-- before it.
use Rattle.std.proofs.Common.{rules}
use Rattle.std.proofs.lemmas.Iterator.{YieldsList-from_slice, YieldsList-from_zip}
use Rattle.std.proofs.lemmas.Iterator.Search.{any_from_yields_List}
use Rattle.std.proofs.lemmas.List.{nil_from_length}
use Rattle.points.proofs.Ends.{last_behind}
use Rattle.points.proofs.Seams.{wide_seam, open_closing, open_seams, unmarked_shut, pointless_shut}
use Rattle.points.proofs.joins.is_open.Goals as goal

pub returns-in_default : goal.returns-in_default
returns-in_default c = unmarked_shut _ _ _ _ _ (nil_from_length c.args.marks.now c.in_default.ensures.cases)

pub returns-in_default-split_first : goal.returns-in_default-split_first
returns-in_default-split_first c = pointless_shut _ _ _ _ _ (nil_from_length c.args.ring.now c.in_default-split_first.ensures.cases)

pub returns-then-is_wide : goal.returns-then-is_wide
returns-then-is_wide c =
    open_closing _ _ _ c.in-Some.ensures.cases.0 c.in-Some-split_first.ensures.cases.0 c.is_wide.ensures (rw (c.unwrap_or-last.ensures, c.copied.ensures, c.last.ensures.value) (last_behind _ _)) c.if-is_wide.true

pub returns-else-is_wide : goal.returns-else-is_wide
returns-else-is_wide c =
    let a = c.args in
    open_seams _ _ _ c.in-Some.ensures.cases.0 c.in-Some-split_first.ensures.cases.0 c.is_wide.ensures (rw (c.unwrap_or-last.ensures, c.copied.ensures, c.last.ensures.value) (last_behind _ _)) c.if-is_wide.false
    (any_from_yields_List (wide_seam a.periodic a.scale.u a.scale.v) c.any.new.self _ c.any.result c.any.ensures.ran (YieldsList-from_zip (YieldsList-from_zip (YieldsList-from_slice a.ring.now (cc)) (YieldsList-from_slice c.in-Some-split_first.rest.now (cc))) (YieldsList-from_slice c.in-Some.marks_behind.now (cc))) (λ x b q k. search rules))
