-- `sheet::walk::ring_wrong` says whether check 7 fails on any coedge.
use Rattle.std.proofs.Common.{rules}
use Rattle.std.proofs.lemmas.Iterator.Consumers.{YieldsList-from_first}
use Rattle.std.proofs.lemmas.Iterator.Search.{any_from_yields_List}
use Rattle.sheet.specs.Checks.{coedge_wrong, ring_wrong}
use Rattle.sheet.proofs.walk.ring_wrong.Goals as goal

pub returns : goal.returns
unfolding ring_wrong
returns c = any_from_yields_List coedge_wrong _ _ c.any.result c.any.ensures.ran (YieldsList-from_first (λ coedge. coedge) (λ rest. rest) _ c.coedges.ensures.coedges) (λ x b q k. search rules)
