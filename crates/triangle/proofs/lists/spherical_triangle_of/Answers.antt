-- `triangle::lists::spherical_triangle_of` meets its contract where a list has another length.
use mathlib.Core.Bool.{or-true}
use borrow.Author.Tests.{ne_eqb}
use Rattle.answers.proofs.Papers.{paper_err}
use Rattle.answers.proofs.Calls.{number_argument}
use Rattle.triangle.specs.Lists.{triangle_lists_of, lists_wrong}
use Rattle.triangle.proofs.lists.spherical_triangle_of.Goals as goal
use Rattle.triangle.proofs.lists.spherical_triangle_of.Goals.{then-centre-ne3-via-then-centre-ne3, then-centre-ne3-via-else-centre-ne3+then-sides}

pub returns-then-centre-ne3 : goal.returns-then-centre-ne3
unfolding triangle_lists_of lists_wrong
returns-then-centre-ne3 c =
    elim c.then-centre-ne3.branch [
      | then-centre-ne3-via-then-centre-ne3 w ↦ rw (paper_err, number_argument, ne_eqb _ _ w.if-centre-ne3.true)
      | then-centre-ne3-via-else-centre-ne3+then-sides w ↦ rw (paper_err, number_argument, ne_eqb _ _ w.if-sides.true, or-true)
    ]
