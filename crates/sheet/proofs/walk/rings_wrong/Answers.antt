-- `sheet::walk::rings_wrong` says whether check 7 fails on any ring.
use Rattle.std.proofs.Common.{rules}
use Rattle.std.proofs.lemmas.Iterator.Consumers.{YieldsList-from_first}
use Rattle.std.proofs.lemmas.Iterator.Search.{any_from_yields_List}
use Rattle.sheet.specs.Checks.{ring_wrong}
use Rattle.sheet.proofs.walk.rings_wrong.Goals as goal

pub returns : goal.returns
returns c = any_from_yields_List ring_wrong _ _ c.any.result c.any.ensures.ran (YieldsList-from_first (λ ring. ring) (λ rest. rest) _ c.rings.ensures) (λ x b q k. search rules)
