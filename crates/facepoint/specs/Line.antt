-- Document 01, "prints status, x, y, z, clearance (f64 bits, 16 hexadecimal digits) and count (decimal); a refusal
-- prints its number only".
use Rattle.std.specs.Prelude.{List, ℕ, Result, Ok, Err}
use Rattle.answers.specs.Outcome.{number_of}
use Rattle.answers.specs.declared.outcomes.Values.{Values}
use Rattle.answers.specs.declared.refusal.Refusal.{Refusal}
use Rattle.text.specs.Line.{point_line, refusal_line}

unfoldable pub line_of : Result Values Refusal → List ℕ
line_of (Ok v) = point_line v.x v.y v.z v.clearance v.count
line_of (Err r) = refusal_line (number_of r)
