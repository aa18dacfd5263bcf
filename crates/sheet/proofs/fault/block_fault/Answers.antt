-- `sheet::fault::block_fault` tells the first fault of a block. The invariant: that of the coedges that are left is
-- that of all.
use Rattle.std.proofs.Common.{rules, ◌≡◌, sym, ap, ◌∙◌}
use Rattle.sheet.specs.Layout.{coedge_parts}
use Rattle.sheet.specs.Checks.{first_fault, coedge_fault}
use Rattle.sheet.specs.Faults.{fault_number}
use Rattle.sheet.proofs.Cuts.{fault_found, fault_next}
use Rattle.sheet.proofs.Walks.{some_number, block_empty, block_there}
use Rattle.sheet.proofs.fault.block_fault.Goals as goal

pub returns-then-is_empty : goal.returns-then-is_empty
unfolding fault_number
returns-then-is_empty c = sym (block_empty c.args.version c.args.block.now (search rules))

pub loop-part-init : goal.loop-part-init
loop-part-init c =
    let all : c.into_iter-part-iterator.result ≡ coedge_parts c.args.version c.args.block.now = c.into_iter-part-iterator.ensures.into_iter_gives ∙ c.coedge_parts-part-items.ensures.parts in
    (tt, tt, ap (first_fault (coedge_fault c.args.version)) all)

pub returns-in-Some-coedge_fault : goal.returns-in-Some-coedge_fault
unfolding fault_number
returns-in-Some-coedge_fault c =
    sym (block_there c.args.version c.args.block.now (search rules) ∙ sym c.loop-part.invariant.2 ∙ fault_found (coedge_fault c.args.version) c.in-Some.ensures.steps (sym c.in-Some-coedge_fault.ensures) (some_number c.in-Some-coedge_fault.fault))

pub loop-part-preserved : goal.loop-part-preserved
unfolding fault_number
loop-part-preserved c =
    (tt, tt, sym (fault_next (coedge_fault c.args.version) c.in-Some.ensures.steps (sym c.in_default.ensures)) ∙ c.loop-part.invariant.2)

pub returns : goal.returns
unfolding fault_number first_fault
returns c = sym (block_there c.args.version c.args.block.now (search rules) ∙ sym c.loop-part.invariant.2 ∙ ap (first_fault (coedge_fault c.args.version)) c.in-None.ensures.steps.0)
