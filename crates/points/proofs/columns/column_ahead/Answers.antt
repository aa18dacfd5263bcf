-- `points::columns::column_ahead` finds the first column, of those that are asked, at which the test holds. The loop's
-- invariant: what is found among the columns that are left is what is found among all of them.
use Rattle.std.proofs.Common.{[], ◌∷◌, arith}
use Rattle.points.specs.Columns.{columns_ahead}
use Rattle.points.proofs.Halving.{held_here, not_here, past_last, held_nowhere}
use Rattle.points.proofs.columns.column_ahead.Goals as goal
use Rattle.points.proofs.columns.column_ahead.Goals.{then-step-last+else-holds_at, else-step-last}

pub loop-step-init : goal.loop-step-init
unfolding columns_ahead
loop-step-init g c = rw c.saturating_sub-last.ensures

pub returns-then-holds_at : goal.returns-then-holds_at
returns-then-holds_at g c =
    held_here _ c.args.i (c.saturating_sub-last.result ∷ 16 ∷ 8 ∷ 4 ∷ 2 ∷ 1 ∷ []) c.loop-step.step-index c.loop-step.invariant (omega arith) (omega arith) c.if-holds_at.ensures

pub loop-step-preserved : goal.loop-step-preserved
loop-step-preserved g c =
    elim c.if-step-last.branch [
      | then-step-last+else-holds_at w ↦ not_here _ c.args.i (c.saturating_sub-last.result ∷ 16 ∷ 8 ∷ 4 ∷ 2 ∷ 1 ∷ []) c.loop-step.step-index c.loop-step.invariant (omega arith) (omega arith) w.if-holds_at.ensures
      | else-step-last w ↦ past_last _ c.args.i (c.saturating_sub-last.result ∷ 16 ∷ 8 ∷ 4 ∷ 2 ∷ 1 ∷ []) c.loop-step.step-index c.loop-step.invariant (omega arith) (omega arith)
    ]

pub returns : goal.returns
returns g c = held_nowhere _ c.args.i (c.saturating_sub-last.result ∷ 16 ∷ 8 ∷ 4 ∷ 2 ∷ 1 ∷ []) c.loop-step.step-index c.loop-step.invariant (omega arith)
