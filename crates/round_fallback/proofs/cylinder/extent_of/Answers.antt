-- `round_fallback::cylinder::extent_of` is the least and the greatest of the list, number by number.
use Rattle.std.proofs.Common.{◌≡◌, ◌∙◌, ap, arith}
use mathlib.Core.List.{foldl}
use Rattle.std.proofs.lemmas.Grind.{common_steps}
use Rattle.round_fallback.specs.Cylinder.{with_number}
use Rattle.round_fallback.proofs.Extremes.{empty_extent, extent_found}
use Rattle.round_fallback.proofs.cylinder.extent_of.Goals as goal

pub returns : goal.returns
returns c =
    let folded : c.fold.result ≡ foldl with_number empty_extent c.args.list.now = grind (arith, common_steps) in
    let found = folded ∙ extent_found c.args.list.now in
    (ap (λ e. e.least) found, ap (λ e. e.greatest) found)
