-- The answers of the calls, and the paper's six numbers of each. Document 01: "the outcome is either a point with its
-- three coordinates, clearance and count, or a refusal number", and "With a refusal all other
-- result numbers are 0". A call after the picker has its values first, and the rest is 0 (docs/DECISIONS.md); a yes is
-- 1, a no 0.
-- No refusal has the number 0, so the numbers tell an answer of zeros from a refusal (proofs/Papers.antt).
use Rattle.std.specs.Prelude.{Bool, cond, ℕ, Float, Result, Ok, Err}
use Rattle.leaves.specs.Constants.{plus_zero, one}
use Rattle.space.specs.declared.vectors.Place.{Place}
use Rattle.answers.specs.Outcome.{Numbers, refused, number_of}
use Rattle.answers.specs.declared.refusal.Refusal.{Refusal}
use Rattle.answers.specs.declared.outcomes.Values.{Values}
use Rattle.answers.specs.declared.outcomes.Parameter.{Parameter}
use Rattle.answers.specs.declared.outcomes.Direction.{Direction}
use Rattle.answers.specs.declared.outcomes.Middle.{Middle}

-- of an outcome, by the numbers of what is answered and by what numbers a refusal
unfoldable pub told_by : {A E : Type 0} → (A → Numbers) → (E → ℕ) → Result A E → Numbers
told_by numbers number (Ok x) = numbers x
told_by numbers number (Err e) = refused (number e)

-- of a call's outcome
abbrev pub paper_by : {A : Type 0} → (A → Numbers) → Result A Refusal → Numbers
paper_by numbers outcome = told_by numbers number_of outcome

-- ---- chart and picks

abbrev pub values_numbers : Values → Numbers
values_numbers v = record { status = 0; x = v.x; y = v.y; z = v.z; clearance = v.clearance; count = v.count }

abbrev pub paper : Result Values Refusal → Numbers
paper answer = paper_by values_numbers answer

-- ---- the calls after the picker

-- values answered, with status, clearance and count 0
abbrev pub valued : Float → Float → Float → Numbers
valued x y z = record { status = 0; x = x; y = y; z = z; clearance = plus_zero; count = 0 }

abbrev pub yes : Bool → Float
yes b = cond b one plus_zero

abbrev pub parameter_numbers : Parameter → Numbers
parameter_numbers p = valued p.t plus_zero plus_zero

abbrev pub parameter_paper : Result Parameter Refusal → Numbers
parameter_paper answer = paper_by parameter_numbers answer

abbrev pub direction_numbers : Direction → Numbers
direction_numbers d = valued (yes d.reverse) (yes d.keep) plus_zero

abbrev pub direction_paper : Result Direction Refusal → Numbers
direction_paper answer = paper_by direction_numbers answer

abbrev pub place_numbers : Place → Numbers
place_numbers p = valued p.x p.y p.z

abbrev pub position_paper : Result Place Refusal → Numbers
position_paper answer = paper_by place_numbers answer

abbrev pub middle_numbers : Middle → Numbers
middle_numbers m = valued m.angle m.height plus_zero

abbrev pub middle_paper : Result Middle Refusal → Numbers
middle_paper answer = paper_by middle_numbers answer
