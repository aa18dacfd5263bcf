-- What a plate's line says of an answer: a point's numbers, or a refusal's number alone.
use Rattle.std.specs.Prelude.{List, ℕ, Result, Ok, Err}
use Rattle.answers.specs.Outcome.{number_of}
use Rattle.answers.specs.declared.outcomes.Values.{Values}
use Rattle.answers.specs.declared.refusal.Refusal.{Refusal}
use Rattle.text.specs.Digits.{decimal}
use Rattle.text.specs.Line.{point_text}

unfoldable pub answer_text : Result Values Refusal → List ℕ
answer_text (Ok v) = point_text v.x v.y v.z v.clearance v.count
answer_text (Err r) = decimal (number_of r)
