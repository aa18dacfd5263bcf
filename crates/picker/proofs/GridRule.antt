-- "Suppose a sheet passes every check through the joins. Then the answer is refusal 14 exactly when none of its 31 × 31
-- grid points is covered with computed clearance above 0.01. Otherwise the chosen point is
-- covered. Every other covered grid point has at most its clearance, and those with the same clearance come after it, u
-- before v. An answer is this point's, with the coverage, clearance and count of document
-- 01's rules 7 to 9."
-- Document 01, "Words of demand 3": these sentences "are meant of every call of chart, image pick or plane pick that
-- passes the checks down to 13; where it isn't 14 the status is 0, save a pick's 15 where the
-- table gives it. The point answered is the chosen grid point's by the chart's formula or the plane stand-in; in image
-- pick it is the last image, as the host gives it. All three report the chosen point's rule
-- 8 clearance in u and v." Here the two picks: the rule of every call, with the one row 15 below 14.
use mathlib.Core.Path.{◌≡◌, refl, ◌∙◌}
use mathlib.Core.Logic.{◌↔◌, ◌⊎◌}
use mathlib.Core.Bool.{Bool, cond}
use mathlib.Core.List.{List, [], ◌∷◌}
use Prim.Native.Nat.{ℕ}
use native.Mathlib.Omega.{arith}
use lib.Ieee.{Float}
use Rattle.space.specs.declared.vectors.Place.{Place}
use Rattle.sheet.specs.Layout.{sheet_of}
use Rattle.answers.specs.Outcome.{Check, check, first, refused}
use Rattle.chart.specs.Chart.{chosen, none_clear}
use Rattle.chart.specs.Demand.{Clearest, NoneServes, Passes, Rule, candidate_at, clear_at, cover_at, down_to}
use Rattle.search.specs.declared.candidate.Candidate.{Candidate}
use Rattle.chart.proofs.GridRule.{Call, grid_rule}
use Rattle.answers.proofs.Settled.{settled_last}
use Rattle.chart.proofs.Outcomes.{first_above}
use Rattle.picker.specs.Images.{last_image}
use Rattle.picker.specs.ImagePick.{image_checks, image_close, image_pick_of}
use Rattle.picker.specs.Answered.{answered_at}
use Rattle.picker.specs.PlanePick.{plane_checks, plane_pick_of}
use Rattle.picker.specs.Demand.{image_answer, plane_answer}
use Rattle.picker.proofs.Picks.{Own, pick_passes, close_at, image_checks_are, image_is, image_own, image_parted, image_rows, pick_numbered, pick_parted, pick_checks, pick_of, plane_checks_are, plane_is, plane_own, plane_parted, plane_at, plane_rows}
use Rattle.picker.proofs.Refusals.{image_pick_status, plane_pick_status}

-- ---- a pick whose point, and whether it is too close, are of the chosen grid point

module _ (s : List ℕ) (own : List Check) (phase : ℕ) (o : Own own) (at : Candidate → Place) (close : Candidate → Bool) where
  abbrev best : Candidate
  best = chosen (sheet_of s) phase

  abbrev checks : List Check
  checks = pick_checks s own phase (close best)

  pick_call : Call (sheet_of s) phase checks (λ (c : Candidate). check 15 (close c) ∷ []) (λ (c : Candidate). answered_at (at c) c)
  unfolding answered_at
  pick_call = record {
    numbered = pick_numbered s own phase (close best) o;
    parts = pick_parted s own phase (close best) o;
    later = λ c. (refl, tt);
    answers = λ c. refl;
  }

  pick_grid_rule : Passes 13 (pick_checks s own phase (close (chosen (sheet_of s) phase)))
      → (((pick_of s own phase (at (chosen (sheet_of s) phase)) (close (chosen (sheet_of s) phase))).status ≡ 14) ↔ NoneServes (cover_at (sheet_of s) phase) (clear_at (sheet_of s) phase))
      × ((NoneServes (cover_at (sheet_of s) phase) (clear_at (sheet_of s) phase) → ⊥)
      → (i : ℕ) × (j : ℕ) × Clearest (cover_at (sheet_of s) phase) (clear_at (sheet_of s) phase) i j
      × (pick_of s own phase (at (chosen (sheet_of s) phase)) (close (chosen (sheet_of s) phase))
      ≡ cond (close (candidate_at (cover_at (sheet_of s) phase) (clear_at (sheet_of s) phase) i j)) (refused 15)
      (answered_at (at (candidate_at (cover_at (sheet_of s) phase) (clear_at (sheet_of s) phase) i j)) (candidate_at (cover_at (sheet_of s) phase) (clear_at (sheet_of s) phase) i j))))
  unfolding pick_of
  pick_grid_rule passes =
      let (refuses, chooses) = grid_rule (sheet_of s) phase checks (λ (c : Candidate). check 15 (close c) ∷ []) (λ (c : Candidate). answered_at (at c) c) pick_call passes in (
        refuses,
        λ some.
            let (i, j, c, w) = chooses some in
            let z = candidate_at (cover_at (sheet_of s) phase) (clear_at (sheet_of s) phase) i j in
            (i, j, c, w ∙ settled_last 15 (omega arith) (close z) (answered_at (at z) z)),
      )

-- ---- image pick

module _ (s : List ℕ) (phase : ℕ) (images : List Float) where
  -- refusal 14 exactly where no grid point serves; otherwise 15 where the last image is too close, else status 0, with
  -- the last image, and the clearest covered grid point's clearance and the number of covered
  -- grid points
  pub image_grid_rule : Passes 13 (image_checks s phase images) → Rule (sheet_of s) phase (image_pick_of s phase images) (image_answer (sheet_of s) images)
  image_grid_rule =
      rw (image_checks_are s phase images, image_is s phase images)
      (pick_grid_rule s (image_rows (sheet_of s) phase images) phase (image_own s phase images) (λ (c : Candidate). last_image (sheet_of s) images) (λ (c : Candidate). image_close (sheet_of s) images))

  -- where one of the rows down to 13 fails, the first that does is the status
  pub image_refused_above : (Passes 13 (image_checks s phase images) → ⊥) → (image_pick_of s phase images).status ≡ first (down_to 13 (image_checks s phase images))
  image_refused_above n =
      image_pick_status s phase images
      ∙ first_above 13 (image_checks s phase images) (check 14 (none_clear (chosen (sheet_of s) phase)) ∷ check 15 (image_close (sheet_of s) images) ∷ []) (image_parted s phase images) n

  -- the checks down to 13 pass where the status is 0, 14 or 15, and by the rule only there
  pub image_passes_joins : ((image_pick_of s phase images).status ≡ 0) ⊎ (((image_pick_of s phase images).status ≡ 14) ⊎ ((image_pick_of s phase images).status ≡ 15)) → Passes 13 (image_checks s phase images)
  image_passes_joins =
      rw (image_pick_status s phase images, image_checks_are s phase images)
      (pick_passes s (image_rows (sheet_of s) phase images) phase (image_close (sheet_of s) images) (image_own s phase images))

-- ---- plane pick

module _ (s : List ℕ) where
  -- refusal 14 exactly where no grid point serves; otherwise 15 where the clearest covered grid point on the plane is
  -- too close, else status 0, with that point on the plane, its clearance and the number of
  -- covered grid points
  pub plane_grid_rule : Passes 13 (plane_checks s) → Rule (sheet_of s) 0 (plane_pick_of s) (plane_answer (sheet_of s))
  plane_grid_rule = rw (plane_checks_are s, plane_is s) (pick_grid_rule s (plane_rows (sheet_of s)) 0 (plane_own s) (plane_at (sheet_of s)) (close_at (sheet_of s)))

  pub plane_refused_above : (Passes 13 (plane_checks s) → ⊥) → (plane_pick_of s).status ≡ first (down_to 13 (plane_checks s))
  plane_refused_above n =
      plane_pick_status s
      ∙ first_above 13 (plane_checks s) (check 14 (none_clear (chosen (sheet_of s) 0)) ∷ check 15 (close_at (sheet_of s) (chosen (sheet_of s) 0)) ∷ []) (plane_parted s) n

  pub plane_passes_joins : ((plane_pick_of s).status ≡ 0) ⊎ (((plane_pick_of s).status ≡ 14) ⊎ ((plane_pick_of s).status ≡ 15)) → Passes 13 (plane_checks s)
  plane_passes_joins =
      rw (plane_pick_status s, plane_checks_are s) (pick_passes s (plane_rows (sheet_of s)) 0 (close_at (sheet_of s) (chosen (sheet_of s) 0)) (plane_own s))
