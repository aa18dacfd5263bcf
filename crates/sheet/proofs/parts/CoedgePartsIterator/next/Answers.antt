-- The next coedge is the first of those that are left, and leaves the rest.
use Rattle.std.proofs.Common.{rules}
use Rattle.sheet.specs.Layout.{coedge_size}
use Rattle.sheet.proofs.Items.{cut_more, cut_none}
use Rattle.sheet.proofs.parts.CoedgePartsIterator.next.Goals as goal

pub returns-in_err-self-inside-clause-steps : goal.returns-in_err-self-inside-clause-steps
returns-in_err-self-inside-clause-steps c = let none = cut_none (coedge_size c.self.inside.version) _ c.self.inside.rest.now c.in_err-self-inside.ensures in search rules

pub returns-clause-steps : goal.returns-clause-steps
returns-clause-steps c = let more = cut_more (coedge_size c.self.inside.version) _ _ c.self.inside.rest.now c.in_ok-self-inside.ensures.0 c.in_ok-self-inside.ensures.1 in cc

pub returns-clause-goes : goal.returns-clause-goes
returns-clause-goes c = let more = cut_more (coedge_size c.self.inside.version) _ _ c.self.inside.rest.now c.in_ok-self-inside.ensures.0 c.in_ok-self-inside.ensures.1 in search rules
