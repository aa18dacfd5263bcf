-- what was read stands at the buffer's front, and the rest is as it was
use Rattle.std.proofs.Common.{arith}
use Rattle.cases.proofs.Buffers.{all_read, none_more, failed}
use Rattle.cases.proofs.reading.read_full.Goals as goal

pub returns-in_err-more-clause-told : goal.returns-in_err-more-clause-told
returns-in_err-more-clause-told g c =
    let i = c.loop-n.invariant in let e = c.in_err-more.ensures in
    failed _ _ _ _ _ i.in_bounds (omega (arith, i.in_bounds, c.loop-n.auto.buffer)) i.rest i.bytes _ _ _ _ _ e.rest e.bytes c.from_residual.ensures.1

pub returns-after-loop-n-clause-told : goal.returns-after-loop-n-clause-told
returns-after-loop-n-clause-told g c = let i = c.loop-n.invariant in all_read _ _ _ _ _ i.in_bounds (omega (arith, i.in_bounds, c.loop-n.auto.buffer)) i.rest i.bytes

pub returns-in-0-clause-told : goal.returns-in-0-clause-told
returns-in-0-clause-told g c =
    let i = c.loop-n.invariant in let e = c.in_ok-more.ensures in
    none_more _ _ _ _ _ i.in_bounds (omega (arith, i.in_bounds, c.loop-n.auto.buffer)) i.rest i.bytes _ _ _ _ (omega (arith, c.in-0.is)) e.rest e.bytes.0
