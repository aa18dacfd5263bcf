-- "The whole picker, from sheet reader to last clearance test, finishes on every input with a point or a numbered
-- refusal." "A refusal gives zeros beside its number and leaves each lent list unwritten."
-- Here the two picks, on every list of bytes, every phase and every list of images: the status is the first of the
-- call's checks that fails, or 0, and one of its table's numbers; where it is not 0 the five other numbers are zeros.
-- Neither pick is lent a list that it could write.
use mathlib.Core.Path.{◌≡◌, sym, ap, ◌∙◌}
use mathlib.Core.List.{List}
use Prim.Native.Nat.{ℕ}
use lib.Dec.{T}
use lib.Ieee.{Float}
use Rattle.sheet.specs.Layout.{sheet_of}
use Rattle.answers.specs.Outcome.{first, Numbers, refused, OneOf}
use Rattle.answers.proofs.FirstCheck.{amongst, first_one_of}
use Rattle.chart.specs.Chart.{chosen}
use Rattle.picker.specs.Images.{last_image}
use Rattle.picker.specs.ImagePick.{image_checks, image_close, image_pick_of}
use Rattle.picker.specs.PlanePick.{plane_checks, plane_pick_of}
use Rattle.picker.specs.Demand.{image_statuses, plane_statuses}
use Rattle.picker.proofs.Picks.{close_at, image_checks_are, image_is, image_rows, pick_all, pick_refused, pick_status, plane_checks_are, plane_is, plane_at, plane_rows}

-- ---- image pick

module _ (s : List ℕ) (phase : ℕ) (images : List Float) where
  pub image_pick_status : (image_pick_of s phase images).status ≡ first (image_checks s phase images)
  image_pick_status =
      ap (λ (n : Numbers). n.status) (image_is s phase images)
      ∙ pick_status s (image_rows (sheet_of s) phase images) phase (last_image (sheet_of s) images) (image_close (sheet_of s) images)
      ∙ ap first (sym (image_checks_are s phase images))

  pub image_pick_refused : ((image_pick_of s phase images).status ≡ 0 → ⊥) → image_pick_of s phase images ≡ refused (image_pick_of s phase images).status
  image_pick_refused = rw (image_is s phase images) (pick_refused s (image_rows (sheet_of s) phase images) phase (last_image (sheet_of s) images) (image_close (sheet_of s) images))

  -- a number of the table, or 0 for a point
  pub image_pick_status_one : OneOf image_statuses (image_pick_of s phase images).status
  image_pick_status_one =
      rw (image_pick_status, image_checks_are s phase images)
      (first_one_of image_statuses _ tt
      (pick_all s (image_rows (sheet_of s) phase images) phase (image_close (sheet_of s) images) (λ (n : ℕ). T (amongst n image_statuses)) (tt, tt, tt, tt, tt) (tt, tt) (tt, (tt, tt)) (tt, tt, tt, tt) tt))

-- ---- plane pick

module _ (s : List ℕ) where
  pub plane_pick_status : (plane_pick_of s).status ≡ first (plane_checks s)
  plane_pick_status =
      ap (λ (n : Numbers). n.status) (plane_is s)
      ∙ pick_status s (plane_rows (sheet_of s)) 0 (plane_at (sheet_of s) (chosen (sheet_of s) 0)) (close_at (sheet_of s) (chosen (sheet_of s) 0))
      ∙ ap first (sym (plane_checks_are s))

  pub plane_pick_refused : ((plane_pick_of s).status ≡ 0 → ⊥) → plane_pick_of s ≡ refused (plane_pick_of s).status
  plane_pick_refused = rw (plane_is s) (pick_refused s (plane_rows (sheet_of s)) 0 (plane_at (sheet_of s) (chosen (sheet_of s) 0)) (close_at (sheet_of s) (chosen (sheet_of s) 0)))

  pub plane_pick_status_one : OneOf plane_statuses (plane_pick_of s).status
  plane_pick_status_one =
      rw (plane_pick_status, plane_checks_are s)
      (first_one_of plane_statuses _ tt
      (pick_all s (plane_rows (sheet_of s)) 0 (close_at (sheet_of s) (chosen (sheet_of s) 0)) (λ (n : ℕ). T (amongst n plane_statuses)) (tt, tt, tt, tt, tt) (tt, tt) (tt, tt) (tt, tt, tt, tt) tt))
