-- `answers::result::put` meets its contract: beside a refusal a list of five is filled with zeros.
use Rattle.std.proofs.Common.{rules}
use Rattle.std.specs.Float.Ieee.{of_bits}
use Rattle.answers.specs.Answers.{told_by}
use Rattle.answers.specs.Returned.{returned_of, five}
use Rattle.answers.proofs.result.put.Goals as goal

pub returns-in-Err : goal.returns-in-Err
unfolding returned_of five told_by of_bits
returns-in-Err g c = rw (c.in-Err.is, c.number.ensures, c.fill.ensures.after) (search rules)
