-- `coverage::column_turns::ColumnTurns::reach` answers a column up to which the turns serve: their own, or one where
-- they were found to be equal.
use mathlib.Core.Path.{◌≡◌}
use mathlib.Core.Logic.{inl, inr}
use mathlib.Core.Bool.{true}
use Prim.Native.Nat.{ℕ, ◌≤◌}
use lib.Ieee.{Float, eq}
use Rattle.std.proofs.Common.{sym, ◌∙◌}
use Rattle.points.specs.Turns.{keeps_order}
use Rattle.points.proofs.ColumnOrder.{holds}
use Rattle.points.proofs.Halving.{Reached, column_reached}
use Rattle.coverage.specs.Lines.{turn_at, Turning}
use Rattle.coverage.proofs.ServingTurns.{turning_at, turning_between}
use Rattle.coverage.proofs.column_turns.ColumnTurns.reach.Goals as goal

reached : (period mid : Float) (i t : ℕ) → keeps_order period mid ≡ true → Reached (λ m. eq (turn_at period mid i) (turn_at period mid m)) i t → (i ≤ t) × Turning period mid i t (turn_at period mid i)
reached period mid i t ordered (up, inl e) = (up, rw e (turning_at period mid i))
reached period mid i t ordered (up, inr e) = (up, turning_between period mid (holds (keeps_order period mid) ordered) i t e)

pub returns : goal.returns
returns c =
    let s = c.args.self in
    rw c.requires (reached s.period s.mid s.from _ (sym c.keeps_order.ensures ∙ c.if-not-keeps_order.false) (rw (← c.requires) (column_reached _ s.from c.column_ahead.ensures c.unwrap_or.ensures)))
