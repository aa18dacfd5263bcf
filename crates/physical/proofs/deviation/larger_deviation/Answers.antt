-- `physical::deviation::larger_deviation` is the larger of `most` and the deviations of a ring's coedges.
use Rattle.std.proofs.Common.{rules, ◌∙◌}
use Rattle.std.proofs.lemmas.Iterator.Consumers.{YieldsList-from_first, fold_from_yields_List}
use lib.Ieee.{Float}
use Rattle.leaves.specs.Bounds.{larger_of}
use Rattle.sheet.specs.Content.{Coedge}
use Rattle.sheet.proofs.Items.{folded}
use Rattle.physical.specs.Physical.{deviates}
use Rattle.physical.proofs.deviation.larger_deviation.Goals as goal

pub returns : goal.returns
unfolding deviates
returns c =
    let step : Float → Coedge → Float = λ d k. larger_of d k.deviation in
    fold_from_yields_List _ step _ c.fold.result c.fold.ensures.ran (YieldsList-from_first (λ coedge. coedge) (λ rest. rest) _ c.coedges.ensures.coedges) (λ a x b q k. search rules)
    ∙ folded step c.args.most c.args.ring
