-- The next point is the first of those that are left, and leaves the rest.
use Rattle.std.proofs.Common.{rules}
use Rattle.sheet.proofs.Items.{points_more, points_none}
use Rattle.sheet.proofs.outline.CoedgePointsIterator.next.Goals as goal

pub returns-in_err-self-inside-clause-steps : goal.returns-in_err-self-inside-clause-steps
returns-in_err-self-inside-clause-steps c = let none = points_none _ c.self.inside.rest.now c.in_err-self-inside.ensures in search rules

pub returns-clause-steps : goal.returns-clause-steps
returns-clause-steps c = let more = points_more _ _ c.self.inside.rest.now c.in_ok-self-inside.ensures.0 c.in_ok-self-inside.ensures.1 in cc

pub returns-clause-goes : goal.returns-clause-goes
returns-clause-goes c = let more = points_more _ _ c.self.inside.rest.now c.in_ok-self-inside.ensures.0 c.in_ok-self-inside.ensures.1 in search rules
