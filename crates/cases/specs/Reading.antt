-- What a program reads of a file, and what it answers of that. A contract does not know what a file holds: the
-- definitions below take the bytes that it gave, and the reason of a failure, where there is one. A buffer into which
-- they were read has them laid at its start (`laid` of crates/buffer).
use Rattle.std.specs.Prelude.{⊤, ℕ, ◌<◌, ◌≤◌, cond, List, Option, None, Some, Result, Ok, Err, ltb, length}
use Rattle.std.specs.Io.KnownBytes.{Consumes, IsAtEnd}
use Rattle.std.specs.declared.io.Error.{Error}
use Rattle.cases.specs.declared.record.RecordError.{RecordError}
use Rattle.cases.specs.declared.record.RecordError.TheVariants.{Broken}

-- the next bytes: so many of them, or all that the file has left
pub record Gives (n : ℕ) (before after : Option (List ℕ)) (bytes : List ℕ) : Type 0 where
  pub read : Consumes before after bytes
  pub at_most : length bytes ≤ n
  pub all : length bytes < n → IsAtEnd after

-- what a file gave where n bytes were asked: its next bytes and, where it then failed, a reason. No contract knows
-- whether a read fails, nor why: std's `Read` says neither.
pub record Given (n : ℕ) (before after : Option (List ℕ)) : Type 0 where
  pub bytes : List ℕ
  pub fault : Option Error
  pub consumed : Consumes before after bytes
  pub at_most : length bytes ≤ n

-- an answer, or why there is none
unfoldable pub unless : {E A : Type 0} → (Error → E) → Option Error → Result A E → Result A E
unless why None answer = answer
unless why (Some e) answer = Err (why e)

-- of a buffer of n bytes that is to be full: nothing, or that the bytes are too few
unfoldable pub full_or_broken : ℕ → List ℕ → Result ⊤ RecordError
full_or_broken n bytes = cond (ltb (length bytes) n) (Err Broken) (Ok tt)
