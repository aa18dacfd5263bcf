-- Demand 1, of a call by what the host sees of it: "A refusal gives zeros beside its number and leaves each lent list
-- unwritten". No contract cites it: the theorems in proofs/Refusals.antt do.
use Rattle.std.specs.Prelude.{◌≡◌, List, ℕ, Float, length}
use Rattle.answers.specs.Outcome.{Numbers, OneOf}
use Rattle.answers.specs.Returned.{returned, returned_of, zeros}

-- of a call that is lent nothing to write, by its six numbers and its table's
pub record Demand1 (n : Numbers) (table : List ℕ) : Type 0 where
  -- a result list of another length gives 1, and is left as it was
  pub unwritten : (result : List Float) → (length result ≡ 5 → ⊥) → returned_of n result ≡ returned 1 result
  -- a status other than 0 has five zeros beside it
  pub zeroed : (result : List Float) → length result ≡ 5 → ((returned_of n result).status ≡ 0 → ⊥) → (returned_of n result).result ≡ zeros
  -- a number of the table, or 0 for an answer
  pub numbered : (result : List Float) → length result ≡ 5 → OneOf table (returned_of n result).status
