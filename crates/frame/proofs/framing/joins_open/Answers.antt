-- `frame::framing::joins_open` meets its contract. The invariant: the rings that are left, with the marks that are left,
-- are open where all are.
use Rattle.std.proofs.Common.{sym, ap, ◌∙◌, arith}
use Rattle.std.proofs.lemmas.Grind.{common_steps}
use Rattle.frame.specs.Stages.{open_marked}
use Rattle.frame.proofs.Marking.{open_found, open_passed, open_none}
use Rattle.frame.proofs.framing.joins_open.Goals as goal

pub loop-ring-init : goal.loop-ring-init
loop-ring-init c = ap (open_marked c.args.frame c.args.marks.now) c.into_iter-ring-iterator.ensures.into_iter_gives

pub returns-then-is_open : goal.returns-then-is_open
returns-then-is_open c = sym (open_found _ c.loop-ring.left.now c.in-Some.ensures.steps (grind (arith, common_steps)) (sym c.is_open.ensures ∙ c.if-is_open.true)) ∙ c.loop-ring.invariant

pub loop-ring-preserved : goal.loop-ring-preserved
loop-ring-preserved c = sym (open_passed _ c.loop-ring.left.now c.in-Some.ensures.steps (grind (arith, common_steps)) (sym c.is_open.ensures ∙ c.if-is_open.false) (grind (arith, common_steps))) ∙ c.loop-ring.invariant

pub returns : goal.returns
returns c = sym (open_none _ c.loop-ring.left.now c.in-None.ensures.steps.0) ∙ c.loop-ring.invariant
