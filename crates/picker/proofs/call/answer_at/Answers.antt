-- `picker::call::answer_at` is `closing`: 15 where the point is too close, else the point.
use Rattle.picker.proofs.Calling.{closing_near, closing_clear}
use Rattle.picker.proofs.call.answer_at.Goals as goal

pub returns-then-is_close : goal.returns-then-is_close
returns-then-is_close c = closing_near _ _ _ c.if-is_close.true

pub returns-else-is_close : goal.returns-else-is_close
returns-else-is_close c = closing_clear _ _ _ c.if-is_close.false
