-- Document 01, "Program `facepoint` reads one plane sheet from standard input (over 65,536 bytes: prints 1)".
use Rattle.std.specs.Prelude.{cond, List, ℕ, ltb, length}
use Rattle.answers.specs.Outcome.{Numbers, refused}
use Rattle.picker.specs.PlanePick.{plane_pick_of}

unfoldable pub answer_to : List ℕ → Numbers
answer_to input = cond (ltb 65536 (length input)) (refused 1) (plane_pick_of input)
