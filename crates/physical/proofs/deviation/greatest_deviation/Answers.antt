-- `physical::deviation::greatest_deviation` is the greatest deviation of all rings.
use Rattle.std.proofs.Common.{rules, ◌∙◌}
use Rattle.std.proofs.lemmas.Iterator.Consumers.{YieldsList-from_first, fold_from_yields_List}
use Rattle.leaves.specs.Constants.{plus_zero}
use Rattle.sheet.specs.Layout.{sheet_of}
use Rattle.sheet.proofs.Items.{folded}
use Rattle.physical.specs.Physical.{deviates, greatest_deviation}
use Rattle.physical.proofs.deviation.greatest_deviation.Goals as goal

pub returns : goal.returns
unfolding greatest_deviation
returns c =
    fold_from_yields_List _ deviates _ c.fold.result c.fold.ensures.ran (YieldsList-from_first (λ ring. ring) (λ rest. rest) _ c.rings.ensures) (λ a x b q k. search rules)
    ∙ folded deviates plus_zero (sheet_of c.args.s.now).rings
