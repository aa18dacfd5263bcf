-- `sheet::fault::layout_fault` tells the first fault of a sheet's layout. The invariant: that of the blocks that are
-- left is that of all, and with their bytes `filled` is all that head and blocks fill.
use Rattle.std.proofs.Common.{◌≡◌, ◌≤◌, ℕ, List, sym, ap, ◌∙◌, arith, length}
use mathlib.Core.List.{flatten}
use Rattle.sheet.specs.Layout.{version, kind, head_size, blocks}
use Rattle.sheet.specs.Checks.{first_fault, block_fault}
use Rattle.sheet.specs.Faults.{fault_number, number_of}
use Rattle.sheet.proofs.Cuts.{fault_found, fault_next, flatten_next}
use Rattle.sheet.proofs.Walks.{some_number, layout_short, layout_found, layout_over, layout_none, head_length, filled_most}
use Rattle.sheet.proofs.fault.layout_fault.Goals as goal

-- the head is there
fits : {n k : ℕ} (s : List ℕ) → n ≡ head_size k → k ≡ kind s → n ≤ length s → head_size (kind s) ≤ length s
fits s e f h = omega (arith, e, ap head_size f, h)

pub returns-then-s-filled : goal.returns-then-s-filled
unfolding fault_number number_of
returns-then-s-filled c = sym (layout_short c.args.s.now (omega (arith, c.head_size-filled.ensures, ap head_size c.kind_of.ensures, c.if-s-filled.true)))

pub loop-block-init : goal.loop-block-init
loop-block-init c =
    let s = c.args.s.now in
    let all : c.into_iter-block-iterator.result ≡ blocks s = c.into_iter-block-iterator.ensures.into_iter_gives ∙ c.ring_blocks-block-items.ensures in
    let there = fits s c.head_size-filled.ensures c.kind_of.ensures c.if-s-filled.false in
    (tt, tt, omega (arith, ap (λ bs. length (flatten bs)) all, c.head_size-filled.ensures, ap head_size c.kind_of.ensures, head_length s there), ap (first_fault (block_fault (version s))) all)

pub returns-in-Some-block_fault : goal.returns-in-Some-block_fault
unfolding fault_number
returns-in-Some-block_fault c =
    let s = c.args.s.now in
    let there = fits s c.head_size-filled.ensures c.kind_of.ensures c.if-s-filled.false in
    let number = sym (c.in-Some-block_fault.ensures ∙ ap (λ v. block_fault v c.in-Some.block.now) c.version_of.ensures) in
    sym (layout_found s there (sym c.loop-block.invariant.3 ∙ fault_found (block_fault (version s)) c.in-Some.ensures.steps number (some_number c.in-Some-block_fault.fault)) (some_number c.in-Some-block_fault.fault))

pub overflow_add-filled : goal.overflow_add-filled
overflow_add-filled c = omega (arith, flatten_next c.in-Some.ensures.steps, c.loop-block.invariant.2, filled_most c.args.s.now)

pub loop-block-preserved : goal.loop-block-preserved
unfolding fault_number
loop-block-preserved c =
    let none = sym (c.in_default.ensures ∙ ap (λ v. block_fault v c.in-Some.block.now) c.version_of.ensures) in
    (tt, tt, omega (arith, flatten_next c.in-Some.ensures.steps, c.loop-block.invariant.2), sym (fault_next (block_fault (version c.args.s.now)) c.in-Some.ensures.steps none) ∙ c.loop-block.invariant.3)

pub returns-then-filled-s : goal.returns-then-filled-s
unfolding fault_number number_of first_fault flatten
returns-then-filled-s c =
    let s = c.args.s.now in
    let there = fits s c.head_size-filled.ensures c.kind_of.ensures c.if-s-filled.false in
    let none = c.in-None.ensures.steps.0 in
    sym (layout_over s there (sym c.loop-block.invariant.3 ∙ ap (first_fault (block_fault (version s))) none) (omega (arith, c.if-filled-s.true, ap (λ bs. length (flatten bs)) none, c.loop-block.invariant.2)))

pub returns-else-filled-s : goal.returns-else-filled-s
unfolding fault_number first_fault flatten
returns-else-filled-s c =
    let s = c.args.s.now in
    let there = fits s c.head_size-filled.ensures c.kind_of.ensures c.if-s-filled.false in
    let none = c.in-None.ensures.steps.0 in
    sym (layout_none s there (sym c.loop-block.invariant.3 ∙ ap (first_fault (block_fault (version s))) none) (omega (arith, c.if-filled-s.false, ap (λ bs. length (flatten bs)) none, c.loop-block.invariant.2)))
