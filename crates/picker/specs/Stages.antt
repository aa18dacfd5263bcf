-- What the private functions of the picker promise each other. A reader of the picks' definitions needs nothing of it.
use Rattle.std.specs.Prelude.{Bool, false, cond, List, ◌++◌, ◌≡◌, ℕ, Float}
use Rattle.answers.specs.Outcome.{Numbers, refused, first}
use Rattle.space.specs.declared.vectors.Place.{Place}
use Rattle.sheet.specs.Layout.{sheet_of}
use Rattle.sheet.specs.Checks.{layout_checks, content_checks}
use Rattle.frame.specs.Seam.{phase_checks}
use Rattle.search.specs.declared.candidate.Candidate.{Candidate}
use Rattle.picker.specs.Answered.{answered_at}
use Rattle.picker.specs.ImagePick.{images_wrong}
use Rattle.picker.specs.PlanePick.{no_plane}

-- a sheet, a phase and images that pass the checks down to 10
pub record ImagePassed (s : List ℕ) (phase : ℕ) (images : List Float) : Type 0 where
  pub passes : first (phase_checks s phase) ≡ 0
  pub images_right : images_wrong (sheet_of s) images ≡ false

-- a sheet that passes plane pick's checks down to 8
pub record PlanePassed (s : List ℕ) : Type 0 where
  pub reads : first (layout_checks s ++ content_checks (sheet_of s)) ≡ 0
  pub plane : no_plane (sheet_of s) ≡ false

-- 15, and the answer, where the chart has chosen
unfoldable pub closing : Bool → Place → Candidate → Numbers
unfolding answered_at
closing close p c = cond close (refused 15) (answered_at p c)
