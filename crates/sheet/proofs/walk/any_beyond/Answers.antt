-- `sheet::walk::any_beyond` says whether any of the numbers is beyond the limit.
use Rattle.std.proofs.Common.{rules, ℕ, ◌+◌, ◌*◌, drop, ◌∙◌, refl, add-zero}
use Rattle.std.proofs.lemmas.Iterator.{YieldsList-from_range}
use Rattle.std.proofs.lemmas.Iterator.Search.{any_from_yields_List}
use Rattle.answers.specs.Limits.{beyond}
use Rattle.sheet.specs.Layout.{number}
use Rattle.sheet.proofs.Items.{any_number}
use Rattle.sheet.proofs.walk.any_beyond.Goals as goal

pub returns : goal.returns
returns c =
    let a = c.args in
    any_from_yields_List (λ (k : ℕ). beyond a.limit (number (drop (a.from + 8 * k) a.s.now))) _ _ c.any.result c.any.ensures.ran (YieldsList-from_range 0 a.count a.count refl (search rules)) (λ x b q k. search rules)
    ∙ (simp add-zero at (any_number (beyond a.limit) a.s.now a.from a.count 0))
