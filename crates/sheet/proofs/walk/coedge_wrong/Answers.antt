-- `sheet::walk::coedge_wrong` says whether check 7 fails on a coedge: its deviation is tested first, then its points.
use Rattle.std.proofs.Common.{rules}
use Rattle.std.proofs.lemmas.Iterator.Consumers.{YieldsList-from_first}
use Rattle.std.proofs.lemmas.Iterator.Search.{any_from_yields_List}
use Rattle.sheet.specs.Checks.{point_wrong, coedge_wrong}
use Rattle.sheet.proofs.walk.coedge_wrong.Goals as goal

pub returns-else-not-is_deviation : goal.returns-else-not-is_deviation
unfolding coedge_wrong
returns-else-not-is_deviation c =
    rw (← c.deviation.ensures, ← c.is_deviation.ensures, c.if-not-is_deviation.false)
    (any_from_yields_List point_wrong _ _ c.any.result c.any.ensures.ran (YieldsList-from_first (λ p. p) (λ rest. rest) _ c.points.ensures) (λ x b q k. search rules))
