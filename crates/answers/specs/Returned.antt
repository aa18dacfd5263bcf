-- Document 01, "Over it a call returns the status and puts the other five numbers in a list of five f64 that counts as
-- result, not as lent; another length: 1, first of all, unwritten".
use Rattle.std.specs.Prelude.{cond, List, [], ◌∷◌, ℕ, eqb, pos, length, Float}
use Rattle.std.specs.Float.{binary64}
use Rattle.std.specs.Float.Ieee.{of_int}
use Rattle.leaves.specs.Constants.{plus_zero}
use Rattle.answers.specs.Outcome.{Numbers}

-- the status returned, and the result list afterwards
pub record Returned : Type 0 where
  pub status : ℕ
  pub result : List Float

abbrev pub returned : ℕ → List Float → Returned
returned status result = record { status = status; result = result }

-- x, y, z, clearance and the count as a number
unfoldable pub five : Numbers → List Float
unfolding of_int
five n = n.x ∷ n.y ∷ n.z ∷ n.clearance ∷ of_int binary64 (pos n.count) ∷ []

-- what a call that gives these numbers returns, with this result list at entry
unfoldable pub returned_of : Numbers → List Float → Returned
unfolding five
returned_of n result = cond (eqb (length result) 5) (returned n.status (five n)) (returned 1 result)

-- what stands beside a refusal
abbrev pub zeros : List Float
zeros = plus_zero ∷ plus_zero ∷ plus_zero ∷ plus_zero ∷ plus_zero ∷ []
