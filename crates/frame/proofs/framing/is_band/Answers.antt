-- `frame::framing::is_band` meets its contract: the test of the code is that of the definition.
use Rattle.std.proofs.Common.{rules}
use Rattle.std.proofs.lemmas.Iterator.Consumers.{YieldsList-from_first}
use Rattle.std.proofs.lemmas.Iterator.Search.{any_from_yields_List}
use Rattle.points.specs.Bounds.{goes_around}
use Rattle.frame.specs.Frame.{band_of}
use Rattle.frame.specs.Parts.{rings_left}
use Rattle.frame.proofs.framing.is_band.Goals as goal

pub returns-then-is_torus : goal.returns-then-is_torus
unfolding band_of
returns-then-is_torus c =
    rw (← c.is_torus.ensures, c.if-is_torus.true) (any_from_yields_List goes_around _ _ c.any.result c.any.ensures.ran (YieldsList-from_first (λ ring. ring.now) rings_left _ c.into_iter.ensures.into_iter_gives) (λ x b q k. search rules))

pub returns-else-is_torus : goal.returns-else-is_torus
unfolding band_of
returns-else-is_torus c = rw (← c.is_torus.ensures, c.if-is_torus.false)
