-- `inside::grid_lines::raised` finds the first count after which the next line is not below x.
use Rattle.std.proofs.Common.{◌≡◌, ◌+◌, false, rules, tests}
use lib.Ieee.{lt}
use Rattle.std.specs.Bool.{⊤}
use Rattle.std.proofs.lemmas.Iterator.{first_from_Range}
use Rattle.points.specs.Grid.{part}
use Rattle.inside.proofs.Ascending.{none_from}
use Rattle.inside.proofs.grid_lines.raised.Goals as goal

pub returns : goal.returns
returns c =
    let x = c.args.x in
    rw c.unwrap_or.ensures
    (none_from x _ _ (first_from_Range _ _ _ _ (λ i. lt (part (i + 1)) x ≡ false) (λ i. ⊤) c.find.ensures.ran
    (λ i q k. search (rules, tests))
    (λ i q k. search (rules, tests))))
