-- The head of a recorded call: the sheet's length, the phase and the list's length, four bytes each.
use Rattle.std.specs.Prelude.{ℕ, cond, ◌||◌, List, length, eqb, ltb, Option, None, Some, Result, Ok, Err}
use Rattle.cases.specs.BigEndian.{big}
use Rattle.cases.specs.declared.record.RecordError.{RecordError}
use Rattle.cases.specs.declared.record.RecordError.TheVariants.{Broken}
use Rattle.cases.specs.Lengths.{Lengths}

-- the call of a whole head, with no length above the longest
unfoldable pub call_of : List ℕ → Result (Option Lengths) RecordError
call_of s = cond (ltb 40000 (big s 0 4) || ltb 6600 (big s 8 4)) (Err Broken) (Ok (Some (record { bytes = big s 0 4; phase = big s 4 4; places = big s 8 4 })))

-- the head in the bytes that a file still had of it
unfoldable pub head_of : List ℕ → Result (Option Lengths) RecordError
head_of s = cond (eqb (length s) 0) (Ok None) (cond (ltb (length s) 12) (Err Broken) (call_of s))
