-- `sheet::parts::block_size` adds the coedges up. The invariant: with those that are left they are all.
use Rattle.std.proofs.Common.{◌≡◌, ◌+◌, ap, ◌∙◌, arith, length}
use mathlib.Core.List.{flatten}
use Rattle.sheet.specs.Layout.{coedge_parts, block_size}
use Rattle.sheet.proofs.Blocks.{block_most}
use Rattle.sheet.proofs.Cuts.{flatten_next}
use Rattle.sheet.proofs.parts.block_size.Goals as goal

pub loop-part-init : goal.loop-part-init
unfolding block_size
loop-part-init c =
    let all : c.into_iter-part-iterator.result ≡ coedge_parts c.args.version c.args.s.now = c.into_iter-part-iterator.ensures.into_iter_gives ∙ c.coedge_parts-part-items.ensures.parts in
    (tt, tt, ap (λ ps. 1 + length (flatten ps)) all)

pub overflow_add-size : goal.overflow_add-size
overflow_add-size c = omega (arith, flatten_next c.in-Some.ensures.steps, c.loop-part.invariant.2, block_most c.args.version c.args.s.now)

pub loop-part-preserved : goal.loop-part-preserved
loop-part-preserved c = (tt, tt, omega (arith, flatten_next c.in-Some.ensures.steps, c.loop-part.invariant.2))

pub returns : goal.returns
unfolding flatten
returns c = omega (arith, ap (λ ps. length (flatten ps)) c.in-None.ensures.steps.0, c.loop-part.invariant.2)
