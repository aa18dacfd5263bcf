-- Document 01, "Chart": the chart call, from the bytes of a sheet, the phase and the output list to the answer and the
-- list's later contents.
use Rattle.std.specs.Prelude.{Bool, false, not, cond, ℕ, ◌*◌, eqb, ltb, length, drop, Float, Option, Some, None}
use mathlib.Core.List.{List, [], ◌∷◌, ◌++◌, map, foldl}
use Rattle.std.specs.Float.{inf, binary64}
use Rattle.std.specs.Float.Ieee.{add, sub, mul, lt}
use Rattle.leaves.specs.Constants.{plus_zero, clearance_limit}
use Rattle.sheet.specs.Content.{Point, Sheet}
use Rattle.sheet.specs.Layout.{sheet_of}
use Rattle.answers.specs.Outcome.{Check, check, first, Numbers, settled}
use Rattle.sheet.specs.Checks.{layout_checks, content_checks}
use Rattle.points.specs.Normalise.{normal}
use Rattle.coverage.specs.Coverage.{covered}
use Rattle.clearance.specs.Clearance.{nearer}
use Rattle.points.specs.Written.{phase_angle, written}
use Rattle.frame.specs.Framing.{moved_rings, frame, point_count, phase_wrong, join_checks}
use Rattle.points.specs.Grid.{grid_point}
use Rattle.search.specs.Search.{search}
use Rattle.frame.specs.declared.framing.Frame.{Frame}
use Rattle.search.specs.declared.candidate.Candidate.{Candidate}

-- ---- 5: "Normalise: (coordinate − least)/scale"

unfoldable pub normalised_by : Frame → List (List Point) → List (List Point)
unfolding normal
normalised_by f rings = map (map (normal f.least.u f.least.v f.scale.u f.scale.v)) rings

unfoldable pub normalised : Sheet → ℕ → List (List Point)
unfolding normalised_by frame moved_rings
normalised s phase = normalised_by (frame s phase) (moved_rings s phase)

-- ---- rules 7 to 9 see the normalised rings, the frame and the sense, and nothing else

-- P where the chart is periodic: rule 8 asks it of no other
abbrev pub period_of : Frame → Option Float
period_of f = cond f.periodic (Some f.period) None

-- 8: "Clearance: least distance to a segment, from infinity"
unfoldable pub clearance : Frame → List (List Point) → Point → Float
unfolding nearer
clearance f rings p = foldl (nearer (period_of f) p) (inf false) rings

-- 9, over rule 6's grid
unfoldable pub candidate : Frame → ℕ → List (List Point) → Candidate
unfolding search covered clearance grid_point
candidate f sense rings = search (λ (i j : ℕ). covered f sense rings (grid_point i j)) (λ (i j : ℕ). clearance f rings (grid_point i j))

-- ---- the grid point that a sheet's rings give

unfoldable pub chosen : Sheet → ℕ → Candidate
unfolding candidate frame normalised
chosen s phase = candidate (frame s phase) s.sense (normalised s phase)

-- ---- the answer

-- "u = least + p.u × scale, v = least + p.v × scale − phase (0 or PI), third coordinate 0, with clearance and count"
unfoldable pub answered : Frame → ℕ → Candidate → Numbers
unfolding add sub mul phase_angle
answered f phase c = record {
  status = 0;
  x = add binary64 f.least.u (mul binary64 c.u f.scale.u);
  y = sub binary64 (add binary64 f.least.v (mul binary64 c.v f.scale.v)) (phase_angle phase);
  z = plus_zero;
  clearance = c.clearance;
  count = c.count;
}

-- ---- the table, read top to bottom

-- 9: "chart: output shorter than 2 × points"
unfoldable pub room_wrong : Sheet → ℕ → Bool
unfolding point_count
room_wrong s room = ltb room (2 * point_count s)

-- 14: "no covered grid point with clearance above 0.01"
unfoldable pub none_clear : Candidate → Bool
unfolding lt
none_clear c = not (lt clearance_limit c.clearance)

-- the rows behind the call's own, which stand between 8 and 11
unfoldable pub frame_checks : Sheet → ℕ → List Check
unfolding join_checks none_clear
frame_checks s phase = join_checks s phase ++ check 14 (none_clear (chosen s phase)) ∷ []

unfoldable pub chart_checks : List ℕ → ℕ → ℕ → List Check
unfolding layout_checks content_checks sheet_of phase_wrong room_wrong frame_checks
chart_checks s phase room =
    layout_checks s
    ++ content_checks (sheet_of s)
    ++ check 8 (phase_wrong (sheet_of s) phase)
    ∷ check 9 (room_wrong (sheet_of s) room)
    ∷ frame_checks (sheet_of s) phase

-- ---- the call

pub record Charted : Type 0 where
  pub numbers : Numbers
  pub points : List Float

abbrev pub charted : Numbers → List Float → Charted
charted numbers points = record { numbers = numbers; points = points }

-- "With a refusal all other result numbers are 0 and no lent list is written"; else the chart's answer, and the moved
-- points over the front of the list, whose tail keeps its contents
unfoldable pub outcome : ℕ → Sheet → ℕ → List Float → Charted
unfolding settled answered frame written moved_rings
outcome refusal s phase out =
    charted
    (settled refusal (answered (frame s phase) phase (chosen s phase)))
    (cond (eqb refusal 0) (written phase (moved_rings s phase) ++ drop (length (written phase (moved_rings s phase))) out) out)

unfoldable pub chart_of : List ℕ → ℕ → List Float → Charted
unfolding outcome first chart_checks sheet_of
chart_of s phase out = outcome (first (chart_checks s phase (length out))) (sheet_of s) phase out
