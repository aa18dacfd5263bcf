-- One pick of which image pick and plane pick are instances: the sheet's checks, those of the call between 7 and 11,
-- the chart's from 11 on, and 15, then the point with the clearance and the count of the
-- chosen grid point. Its status is the first check that fails, or 0, and where it is not 0 all else is zero.
use mathlib.Core.Path.{◌≡◌, refl, sym, ap, ◌∙◌, subst}
use mathlib.Core.Logic.{◌⊎◌, ⊎_elim}
use mathlib.Core.Bool.{Bool, false}
use mathlib.Core.List.{List, [], ◌∷◌, ◌++◌, append_assoc}
use Prim.Native.Nat.{ℕ, ◌<◌}
use native.Mathlib.Omega.{arith}
use lib.Dec.{eqb}
use lib.Ieee.{Float}
use Rattle.leaves.proofs.Folds.{All, all_append}
use Rattle.space.specs.declared.vectors.Place.{Place}
use Rattle.sheet.specs.Content.{point, Sheet}
use Rattle.sheet.specs.Layout.{sheet_of}
use Rattle.answers.specs.Outcome.{Check, check, first, Numbers, refused, settled}
use Rattle.sheet.specs.Checks.{layout_checks, content_checks}
use Rattle.answers.proofs.FirstCheck.{Lacks, Numbered}
use Rattle.sheet.proofs.Checked.{layout_all, content_all}
use Rattle.chart.specs.Chart.{answered, chosen, frame_checks, none_clear}
use Rattle.frame.specs.Framing.{frame, phase_wrong}
use Rattle.chart.specs.Demand.{Passes, down_to}
use Rattle.search.specs.declared.candidate.Candidate.{Candidate}
use Rattle.answers.proofs.Settled.{settled_refused, settled_status}
use Rattle.chart.proofs.Outcomes.{Parted, down_behind, first_passes, frame_all, frame_down_all, frame_parted, parted_behind}
use Rattle.picker.specs.Images.{last_image}
use Rattle.picker.specs.ImagePick.{image_checks, image_close, image_pick_of, images_wrong}
use Rattle.picker.specs.Answered.{answered_at}
use Rattle.physical.specs.Physical.{too_close}
use Rattle.picker.specs.PlanePick.{no_plane, plane_checks, plane_close, plane_images, plane_pick_of, plane_point}
use Rattle.physical.specs.Plane.{on_plane}

-- the table of a pick with the rows `own` between 7 and 11
unfoldable pub pick_checks : List ℕ → List Check → ℕ → Bool → List Check
pick_checks s own phase close = layout_checks s ++ content_checks (sheet_of s) ++ (own ++ frame_checks (sheet_of s) phase) ++ check 15 close ∷ []

unfoldable pub pick_of : List ℕ → List Check → ℕ → Place → Bool → Numbers
unfolding pick_checks
pick_of s own phase p close = settled (first (pick_checks s own phase close)) (answered_at p (chosen (sheet_of s) phase))

-- the numbers that stand between 7 and 11 are no 0, and none of those from 13 on
pub record Own (own : List Check) : Type 0 where
  pub numbered : Numbered own
  pub no_13 : Lacks 13 own
  pub no_14 : Lacks 14 own
  pub no_15 : Lacks 15 own

-- ---- the status, and what stands beside a refusal

module _ (s : List ℕ) (own : List Check) (phase : ℕ) (p : Place) (close : Bool) where
  pub pick_status : (pick_of s own phase p close).status ≡ first (pick_checks s own phase close)
  unfolding pick_of answered_at
  pick_status = settled_status (first (pick_checks s own phase close)) (answered_at p (chosen (sheet_of s) phase)) refl

  pub pick_refused : ((pick_of s own phase p close).status ≡ 0 → ⊥) → pick_of s own phase p close ≡ refused (pick_of s own phase p close).status
  unfolding pick_of
  pick_refused h =
      settled_refused (first (pick_checks s own phase close)) (answered_at p (chosen (sheet_of s) phase)) (λ e. h (pick_status ∙ e))
      ∙ ap refused (sym pick_status)

-- ---- the table

module _ (s : List ℕ) (own : List Check) (phase : ℕ) (close : Bool) where
  abbrev sheet : Sheet
  sheet = sheet_of s

  -- the rows down to the call's own
  abbrev above : List Check
  above = layout_checks s ++ content_checks sheet ++ own

  -- those from 11 on
  abbrev rest : List Check
  rest = frame_checks sheet phase ++ check 15 close ∷ []

  -- and those behind 13
  abbrev behind : List Check
  behind = check 14 (none_clear (chosen sheet phase)) ∷ check 15 close ∷ []

  rows_are : pick_checks s own phase close ≡ above ++ rest
  unfolding pick_checks
  rows_are =
      let l = layout_checks s ++ content_checks sheet in
      let f = frame_checks sheet phase in
      ap (λ (cs : List Check). cs ++ check 15 close ∷ []) (sym (append_assoc l own f)) ∙ append_assoc (l ++ own) f (check 15 close ∷ [])

  -- what holds of the rows' numbers
  above_all : (P : ℕ → Type 0) → P 1 × P 2 × P 3 × P 4 × P 5 → P 6 × P 7 → All (λ (c : Check). P c.number) own → All (λ (c : Check). P c.number) above
  above_all P l c o =
      let Q : Check → Type 0 = λ c. P c.number in
      all_append Q (layout_checks s ++ content_checks sheet) own (all_append Q (layout_checks s) (content_checks sheet) (layout_all P s l) (content_all P sheet c)) o

  pub pick_all : (P : ℕ → Type 0) → P 1 × P 2 × P 3 × P 4 × P 5 → P 6 × P 7 → All (λ (c : Check). P c.number) own → P 11 × P 12 × P 13 × P 14 → P 15
      → All (λ (c : Check). P c.number) (pick_checks s own phase close)
  pick_all P l c o f e =
      let Q : Check → Type 0 = λ c. P c.number in
      subst (All Q) (sym rows_are) (all_append Q above rest (above_all P l c o) (all_append Q (frame_checks sheet phase) (check 15 close ∷ []) (frame_all P sheet phase f) (e, tt)))

  module _ (o : Own own) where
    above_13 : Lacks 13 above
    above_13 = above_all (λ (n : ℕ). eqb n 13 ≡ false) (refl, refl, refl, refl, refl) (refl, refl) o.no_13

    pub pick_parted : Parted 13 (pick_checks s own phase close) (check 14 (none_clear (chosen (sheet_of s) phase)) ∷ check 15 close ∷ [])
    pick_parted = subst (λ (cs : List Check). Parted 13 cs behind) (sym rows_are) (parted_behind 13 above rest behind above_13 (frame_parted sheet phase (check 15 close ∷ [])))

    pub pick_numbered : Numbered (pick_checks s own phase close)
    pick_numbered = pick_all (λ (n : ℕ). 0 < n) (omega arith) (omega arith) o.numbered (omega arith) (omega arith)

    -- the rows down to 13, and a number that none of them has
    down_are : down_to 13 (pick_checks s own phase close) ≡ above ++ down_to 13 rest
    down_are = ap (down_to 13) rows_are ∙ down_behind 13 above rest above_13

    abbrev Not : ℕ → ℕ → Type 0
    Not n m = eqb m n ≡ false

    down_lacks : (n : ℕ) → Not n 1 × Not n 2 × Not n 3 × Not n 4 × Not n 5 → Not n 6 × Not n 7 → Lacks n own → Not n 11 × Not n 12 × Not n 13 → Lacks n (down_to 13 (pick_checks s own phase close))
    down_lacks n l c o f =
        subst (Lacks n) (sym down_are)
        (all_append (λ (c : Check). Not n c.number) above (down_to 13 rest) (above_all (Not n) l c o) (frame_down_all sheet phase (check 15 close ∷ []) (Not n) f))

    -- they pass where the first that fails is none, 14 or 15
    pub pick_passes : (first (pick_checks s own phase close) ≡ 0) ⊎ ((first (pick_checks s own phase close) ≡ 14) ⊎ (first (pick_checks s own phase close) ≡ 15)) → Passes 13 (pick_checks s own phase close)
    pick_passes =
        let passes = first_passes 13 (pick_checks s own phase close) behind pick_parted in
        ⊎_elim (passes 0 (λ l. absurd (omega (arith, l)))) (⊎_elim (passes 14 (λ l. down_lacks 14 (refl, refl, refl, refl, refl) (refl, refl) o.no_14 (refl, refl, refl))) (passes 15 (λ l. down_lacks 15 (refl, refl, refl, refl, refl) (refl, refl) o.no_15 (refl, refl, refl))))

-- ---- image pick

abbrev pub image_rows : Sheet → ℕ → List Float → List Check
image_rows s phase images = check 8 (phase_wrong s phase) ∷ check 10 (images_wrong s images) ∷ []

module _ (s : List ℕ) (phase : ℕ) (images : List Float) where
  pub image_own : Own (image_rows (sheet_of s) phase images)
  image_own = record { numbered = omega arith; no_13 = (refl, (refl, tt)); no_14 = (refl, (refl, tt)); no_15 = (refl, (refl, tt)) }

  pub image_checks_are : image_checks s phase images ≡ pick_checks s (image_rows (sheet_of s) phase images) phase (image_close (sheet_of s) images)
  unfolding image_checks pick_checks
  image_checks_are = refl

  pub image_parted : Parted 13 (image_checks s phase images) (check 14 (none_clear (chosen (sheet_of s) phase)) ∷ check 15 (image_close (sheet_of s) images) ∷ [])
  image_parted = rw image_checks_are (pick_parted s (image_rows (sheet_of s) phase images) phase (image_close (sheet_of s) images) image_own)

  pub image_is : image_pick_of s phase images ≡ pick_of s (image_rows (sheet_of s) phase images) phase (last_image (sheet_of s) images) (image_close (sheet_of s) images)
  unfolding image_pick_of image_checks pick_of pick_checks
  image_is = refl

-- ---- plane pick

abbrev pub plane_rows : Sheet → List Check
plane_rows s = check 8 (no_plane s) ∷ []

-- a grid point by the plane stand-in, and 15 there
abbrev pub plane_at : Sheet → Candidate → Place
plane_at s c = on_plane s.plane (point (answered (frame s 0) 0 c).x (answered (frame s 0) 0 c).y)

abbrev pub close_at : Sheet → Candidate → Bool
close_at s c = too_close s (plane_at s c) (plane_images s)

module _ (s : List ℕ) where
  pub plane_own : Own (plane_rows (sheet_of s))
  plane_own = record { numbered = omega arith; no_13 = (refl, tt); no_14 = (refl, tt); no_15 = (refl, tt) }

  pub plane_checks_are : plane_checks s ≡ pick_checks s (plane_rows (sheet_of s)) 0 (close_at (sheet_of s) (chosen (sheet_of s) 0))
  unfolding plane_checks plane_close plane_point pick_checks
  plane_checks_are = refl

  pub plane_parted : Parted 13 (plane_checks s) (check 14 (none_clear (chosen (sheet_of s) 0)) ∷ check 15 (close_at (sheet_of s) (chosen (sheet_of s) 0)) ∷ [])
  plane_parted = rw plane_checks_are (pick_parted s (plane_rows (sheet_of s)) 0 (close_at (sheet_of s) (chosen (sheet_of s) 0)) plane_own)

  pub plane_is : plane_pick_of s ≡ pick_of s (plane_rows (sheet_of s)) 0 (plane_at (sheet_of s) (chosen (sheet_of s) 0)) (close_at (sheet_of s) (chosen (sheet_of s) 0))
  unfolding plane_pick_of plane_checks plane_close plane_point pick_of pick_checks
  plane_is = refl
