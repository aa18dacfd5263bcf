-- `search::copies::ColumnCopy::reach` answers a column up to which the copy serves: its own, or one where it was found
-- to be the same.
use Rattle.std.proofs.Common.{sym, ◌∙◌}
use Rattle.points.proofs.Halving.{column_reached}
use Rattle.search.proofs.ServingCopies.{served_to}
use Rattle.search.proofs.copies.ColumnCopy.reach.Goals as goal

pub returns-then-is_regular : goal.returns-then-is_regular
returns-then-is_regular c =
    let s = c.args.self in
    rw s.is_copy (served_to s.period s.segment (sym c.is_regular.ensures ∙ c.if-is_regular.true) s.column _ (rw (← s.is_copy) (column_reached _ s.column c.column_ahead.ensures c.unwrap_or.ensures)))
