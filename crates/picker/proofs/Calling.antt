-- The picks from their checks to their answers. Both tables are one: the sheet's rows, rows of the pick's own, the
-- chart's 11 to 14, and 15. Where all down to 14 pass, `closing` settles 15 and the answer.
use mathlib.Core.Bool.{Bool, true, false, not, cond}
use mathlib.Core.Path.{◌≡◌, sym, ap, ◌∙◌}
use native.Mathlib.Omega.{arith}
use lib.Dec.{eqb}
use lib.Ieee.{Float}
use borrow.Author.Tests.{eq-eqb, eqb-true, ne_eqb, not-false}
use Rattle.space.specs.declared.vectors.Place.{Place}
use Rattle.std.specs.Prelude.{Result, Ok, Err}
use Rattle.answers.specs.Outcome.{Check, check, first, Numbers, refused, settled, number_of}
use Rattle.answers.specs.Limits.{beyond}
use Rattle.sheet.specs.Checks.{layout_checks, content_checks}
use Rattle.answers.specs.Lists.{any_of}
use Rattle.sheet.proofs.Checked.{sheet_numbered}
use Rattle.answers.proofs.AnyOf.{neither}
use Rattle.answers.specs.declared.outcomes.Values.{Values}
use Rattle.answers.specs.declared.refusal.Refusal.{Refusal}
use Rattle.answers.specs.declared.refusal.Refusal.TheVariants.{Phase, Images, TooClose}
use Rattle.search.specs.declared.candidate.Candidate.{Candidate}
use Rattle.answers.proofs.Settled.{settled_refused, settled_last}
use lib.ListN.{length, drop}
use mathlib.Core.List.{List, [], ◌∷◌, ◌++◌, append_assoc}
use Prim.Native.Nat.{ℕ, ◌+◌, ◌-◌, ◌*◌}
use Rattle.answers.specs.Answers.{paper, values_numbers}
use Rattle.answers.proofs.FirstCheck.{first_here, first_none, first_passed, first_refused}
use Rattle.answers.proofs.Papers.{paper_ok, paper_err, not_zero}
use Rattle.answers.proofs.Calls.{number_phase, number_images, number_too_close}
use Rattle.sheet.specs.Content.{Point, point}
use Rattle.sheet.specs.Layout.{kind, numbers, sheet_of}
use Rattle.sheet.proofs.Planes.{sheet_kind, sheet_plane}
use Rattle.frame.specs.Framing.{moved_rings, frame, point_count, phase_wrong}
use Rattle.frame.specs.Seam.{phase_checks}
use Rattle.frame.specs.declared.framing.Frame.{Frame}
use Rattle.chart.specs.Chart.{answered, chosen, frame_checks}
use Rattle.chart.proofs.Calling.{reads_of, phase_of, phase_rows, phase_numbered}
use Rattle.chart.proofs.Outcomes.{frame_numbered}
use Rattle.physical.specs.Images.{ring_images}
use Rattle.physical.specs.Physical.{too_close}
use Rattle.physical.specs.Plane.{on_plane, plane_images_of}
use Rattle.picker.specs.Answered.{answered_at}
use Rattle.picker.specs.ImagePick.{image_limit, images_wrong, image_close, image_checks, image_pick_of}
use Rattle.picker.specs.Images.{last_image}
use Rattle.picker.specs.PlanePick.{plane_images, no_plane, plane_pick_of}
use Rattle.picker.specs.Stages.{ImagePassed, PlanePassed, closing}
use Rattle.picker.proofs.Picks.{Own, close_at, image_checks_are, image_is, image_own, image_rows, pick_checks, pick_of, plane_is, plane_own, plane_at, plane_rows}
use Rattle.space.specs.Places.{place_at}

-- ---- 15, and the answer

-- the answer has these numbers
abbrev pub Picked : Result Values Refusal → Numbers → Type 0
Picked r n = paper r ≡ n

module _ (close : Bool) (p : Place) (c : Candidate) where
  pub closing_near : close ≡ true → Picked (Err TooClose) (closing close p c)
  unfolding closing
  closing_near e = paper_err values_numbers TooClose ∙ ap refused number_too_close ∙ ap (λ (b : Bool). cond b (refused 15) (answered_at p c)) (sym e)

  pub closing_clear : close ≡ false → Picked (Ok (record { x = p.x; y = p.y; z = p.z; clearance = c.clearance; count = c.count })) (closing close p c)
  unfolding closing answered_at
  closing_clear e = paper_ok values_numbers _ ∙ ap (λ (b : Bool). cond b (refused 15) (answered_at p c)) (sym e)

-- ---- the table of a pick with rows of its own between 7 and 11, and its answer

module _ (s : List ℕ) (own : List Check) (phase : ℕ) (p : Place) (close : Bool) where
  abbrev answer : Numbers
  answer = answered_at p (chosen (sheet_of s) phase)

  -- 11 to 15
  last : List Check
  last = frame_checks (sheet_of s) phase ++ check 15 close ∷ []

  checks_are : pick_checks s own phase close ≡ (layout_checks s ++ content_checks (sheet_of s)) ++ (own ++ last)
  unfolding pick_checks last
  checks_are =
      let rows = layout_checks s ++ content_checks (sheet_of s) in
      append_assoc rows (own ++ frame_checks (sheet_of s) phase) (check 15 close ∷ []) ∙ ap (λ (cs : List Check). rows ++ cs) (append_assoc own (frame_checks (sheet_of s) phase) (check 15 close ∷ []))

  -- the first check that fails is the answer
  refused_by : (r : Refusal) → first (pick_checks s own phase close) ≡ number_of r → Picked (Err r) (pick_of s own phase p close)
  unfolding pick_of
  refused_by r e = paper_err values_numbers r ∙ sym (ap (λ (m : ℕ). settled m answer) e ∙ settled_refused (number_of r) answer (not_zero r))

  pick_unread : (r : Refusal) → number_of r ≡ first (layout_checks s ++ content_checks (sheet_of s)) → Picked (Err r) (pick_of s own phase p close)
  pick_unread r e = refused_by r (ap first checks_are ∙ first_refused (layout_checks s ++ content_checks (sheet_of s)) (own ++ last) (λ z. not_zero r (e ∙ z)) ∙ sym e)

  module _ (reads : first (layout_checks s ++ content_checks (sheet_of s)) ≡ 0) where
    past_reading : first (pick_checks s own phase close) ≡ first (own ++ last)
    past_reading = ap first checks_are ∙ first_passed (layout_checks s ++ content_checks (sheet_of s)) (own ++ last) (sheet_numbered s) reads

    pick_wrong : (r : Refusal) → first own ≡ number_of r → Picked (Err r) (pick_of s own phase p close)
    pick_wrong r e = refused_by r (past_reading ∙ first_refused own last (λ z. not_zero r (sym e ∙ z)) ∙ e)

    module _ (o : Own own) (passes : first own ≡ 0) where
      past_own : first (pick_checks s own phase close) ≡ first last
      past_own = past_reading ∙ first_passed own last o.numbered passes

      pick_uncharted : (r : Refusal) → number_of r ≡ first (frame_checks (sheet_of s) phase) → Picked (Err r) (pick_of s own phase p close)
      unfolding last
      pick_uncharted r e = refused_by r (past_own ∙ first_refused (frame_checks (sheet_of s) phase) (check 15 close ∷ []) (λ z. not_zero r (e ∙ z)) ∙ sym e)

      pick_closed : first (frame_checks (sheet_of s) phase) ≡ 0 → closing close p (chosen (sheet_of s) phase) ≡ pick_of s own phase p close
      unfolding last pick_of closing
      pick_closed e =
          sym (settled_last 15 (omega arith) close answer) ∙ sym (ap (λ (m : ℕ). settled m answer) (past_own ∙ first_passed (frame_checks (sheet_of s) phase) (check 15 close ∷ []) (frame_numbered (sheet_of s) phase) e))

-- ---- image pick

module _ (s : List ℕ) (phase : ℕ) (images : List Float) where
  -- the rows behind 8
  abbrev behind : List Check
  behind = check 10 (images_wrong (sheet_of s) images) ∷ last s (image_rows (sheet_of s) phase images) phase (last_image (sheet_of s) images) (image_close (sheet_of s) images)

  image_rows_lem : image_checks s phase images ≡ phase_checks s phase ++ behind
  image_rows_lem =
      image_checks_are s phase images
      ∙ checks_are s (image_rows (sheet_of s) phase images) phase (last_image (sheet_of s) images) (image_close (sheet_of s) images)
      ∙ sym (append_assoc (layout_checks s ++ content_checks (sheet_of s)) (check 8 (phase_wrong (sheet_of s) phase) ∷ []) behind)
      ∙ ap (λ (cs : List Check). cs ++ behind) (sym (phase_rows s phase))

  image_by : (r : Refusal) → first (image_checks s phase images) ≡ number_of r → Picked (Err r) (image_pick_of s phase images)
  image_by r e =
      refused_by s (image_rows (sheet_of s) phase images) phase (last_image (sheet_of s) images) (image_close (sheet_of s) images) r (sym (ap first (image_checks_are s phase images)) ∙ e)
      ∙ sym (image_is s phase images)

  pub image_unread : (r : Refusal) → number_of r ≡ first (phase_checks s phase) → Picked (Err r) (image_pick_of s phase images)
  image_unread r e = image_by r (ap first image_rows_lem ∙ first_refused (phase_checks s phase) behind (λ z. not_zero r (e ∙ z)) ∙ sym e)

  pub image_wrong : first (phase_checks s phase) ≡ 0 → images_wrong (sheet_of s) images ≡ true → Picked (Err Images) (image_pick_of s phase images)
  image_wrong passes e =
      image_by Images (ap first image_rows_lem ∙ first_passed (phase_checks s phase) behind (phase_numbered s phase) passes ∙ first_here (check 10 (images_wrong (sheet_of s) images)) _ e ∙ sym number_images)

module _ {s : List ℕ} {phase : ℕ} {images : List Float} (i : ImagePassed s phase images) where
  pub image_reads : first (layout_checks s ++ content_checks (sheet_of s)) ≡ 0
  image_reads = reads_of s phase i.passes

  rows_pass : first (image_rows (sheet_of s) phase images) ≡ 0
  rows_pass = first_none (image_rows (sheet_of s) phase images) (phase_of s phase i.passes, (i.images_right, tt))

  pub images_long : length images ≡ 3 * (point_count (sheet_of s) + 1)
  unfolding images_wrong
  images_long =
      let long = eqb (length images) (3 * (point_count (sheet_of s) + 1)) in
      eqb-true (length images) (3 * (point_count (sheet_of s) + 1)) (not-false long (neither (not long) (any_of (beyond image_limit) images) i.images_right).0)

  last_image_lem : place_at images (length images - 3) ≡ last_image (sheet_of s) images
  unfolding last_image
  last_image_lem =
      let e : length images - 3 ≡ 3 * point_count (sheet_of s) = omega (arith, images_long) in
      ap (place_at images) e

  -- what was refused on the way to the grid point
  pub image_refused : (r : Refusal) → number_of r ≡ first (frame_checks (sheet_of s) phase) → Picked (Err r) (image_pick_of s phase images)
  image_refused r e =
      pick_uncharted s (image_rows (sheet_of s) phase images) phase (last_image (sheet_of s) images) (image_close (sheet_of s) images) image_reads (image_own s phase images) rows_pass r e
      ∙ sym (image_is s phase images)

  pub image_answered : {close : Bool} {p : Place} {c : Candidate} (r : Result Values Refusal) → first (frame_checks (sheet_of s) phase) ≡ 0 → p ≡ place_at images (length images - 3) → close ≡ too_close (sheet_of s) p (ring_images (sheet_of s).rings images)
      → c ≡ chosen (sheet_of s) phase → Picked r (closing close p c) → Picked r (image_pick_of s phase images)
  unfolding image_close
  image_answered r passes e k d q =
      let at = e ∙ last_image_lem in
      q
      ∙ (λ j. closing ((k ∙ ap (λ (x : Place). too_close (sheet_of s) x (ring_images (sheet_of s).rings images)) at) j) (at j) (d j))
      ∙ pick_closed s (image_rows (sheet_of s) phase images) phase (last_image (sheet_of s) images) (image_close (sheet_of s) images) image_reads (image_own s phase images) rows_pass passes
      ∙ sym (image_is s phase images)

-- ---- plane pick

module _ (s : List ℕ) where
  abbrev at_chosen : Place
  at_chosen = plane_at (sheet_of s) (chosen (sheet_of s) 0)

  abbrev near_chosen : Bool
  near_chosen = close_at (sheet_of s) (chosen (sheet_of s) 0)

  picked_on : (r : Result Values Refusal) → Picked r (pick_of s (plane_rows (sheet_of s)) 0 at_chosen near_chosen) → Picked r (plane_pick_of s)
  picked_on r q = q ∙ sym (plane_is s)

  pub plane_unread : (r : Refusal) → number_of r ≡ first (layout_checks s ++ content_checks (sheet_of s)) → Picked (Err r) (plane_pick_of s)
  plane_unread r e = picked_on (Err r) (pick_unread s (plane_rows (sheet_of s)) 0 at_chosen near_chosen r e)

  no_plane_lem : (b : Bool) → eqb (kind s) 0 ≡ b → no_plane (sheet_of s) ≡ not b
  unfolding no_plane
  no_plane_lem b e = ap not (ap (λ (k : ℕ). eqb k 0) (sheet_kind s) ∙ e)

  module _ (reads : first (layout_checks s ++ content_checks (sheet_of s)) ≡ 0) where
    pub plane_wrong_kind : (kind s ≡ 0 → ⊥) → Picked (Err Phase) (plane_pick_of s)
    plane_wrong_kind h = picked_on (Err Phase) (pick_wrong s (plane_rows (sheet_of s)) 0 at_chosen near_chosen reads Phase (first_here (check 8 (no_plane (sheet_of s))) [] (no_plane_lem false (ne_eqb (kind s) 0 h)) ∙ sym number_phase))

    pub planar : kind s ≡ 0 → PlanePassed s
    planar e = record { reads = reads; plane = no_plane_lem true (eq-eqb (kind s) 0 e) }

module _ {s : List ℕ} (p : PlanePassed s) where
  plane_numbers : numbers 9 (drop 8 s) ≡ (sheet_of s).plane
  unfolding no_plane
  plane_numbers = sym (sheet_plane s (sym (sheet_kind s) ∙ eqb-true (sheet_of s).kind 0 (not-false (eqb (sheet_of s).kind 0) p.plane)))

  row_passes : first (plane_rows (sheet_of s)) ≡ 0
  row_passes = first_none (plane_rows (sheet_of s)) (p.plane, tt)

  -- the code's phase is 0
  module _ {phase : ℕ} (zero : phase ≡ 0) where
    pub plane_refused : (r : Refusal) → number_of r ≡ first (frame_checks (sheet_of s) phase) → Picked (Err r) (plane_pick_of s)
    plane_refused r e =
        picked_on s (Err r)
        (pick_uncharted s (plane_rows (sheet_of s)) 0 (at_chosen s) (near_chosen s) p.reads (plane_own s) row_passes r (e ∙ ap (λ (n : ℕ). first (frame_checks (sheet_of s) n)) zero))

    -- the grid point was found in this frame, and the rings that were laid out are the sheet's
    pub plane_answered : {close : Bool} {q : Place} {c : Candidate} {f : Frame} {u v : Float} {rings : List (List Point)} (r : Result Values Refusal) → first (frame_checks (sheet_of s) phase) ≡ 0
        → f ≡ frame (sheet_of s) phase → c ≡ chosen (sheet_of s) phase → rings ≡ moved_rings (sheet_of s) phase → u ≡ (answered f phase c).x → v ≡ (answered f phase c).y
        → q ≡ on_plane (numbers 9 (drop 8 s)) (point u v) → close ≡ too_close (sheet_of s) q (plane_images_of (numbers 9 (drop 8 s)) rings) → Picked r (closing close q c) → Picked r (plane_pick_of s)
    unfolding plane_images
    plane_answered {close} {q} {c} {f} {u} {v} {rings} r passes e d g eu ev here near z =
        let framed = e ∙ ap (frame (sheet_of s)) zero in
        let best = d ∙ ap (chosen (sheet_of s)) zero in
        let moved = g ∙ ap (moved_rings (sheet_of s)) zero in
        let at : q ≡ at_chosen s = here ∙ (λ j. on_plane (plane_numbers j) (point ((eu ∙ (λ i. (answered (framed i) (zero i) (best i)).x)) j) ((ev ∙ (λ i. (answered (framed i) (zero i) (best i)).y)) j))) in
        let close-is : close ≡ near_chosen s = near ∙ (λ j. too_close (sheet_of s) (at j) (plane_images_of (plane_numbers j) (moved j))) in
        picked_on s r
        (z
        ∙ (λ j. closing (close-is j) (at j) (best j))
        ∙ pick_closed s (plane_rows (sheet_of s)) 0 (at_chosen s) (near_chosen s) p.reads (plane_own s) row_passes (ap (λ (n : ℕ). first (frame_checks (sheet_of s) n)) (sym zero) ∙ passes))
