-- The rings of a sheet's content in another order, and the images of their points with them: every row of the picks'
-- tables stays the same, bit for bit, where no coordinate and no deviation is -0.
-- So do the numbers of a call. A list of images of wrong length is refused by row 10 at the latest, so that no order of
-- the rings matters to it.
use mathlib.Core.Path.{◌≡◌, refl, sym, ap, ap₂, ◌∙◌}
use mathlib.Core.Bool.{Bool, true, not, ◌||◌, true≢false}
use mathlib.Core.List.Permᴰ
use mathlib.Core.List.{List, [], ◌∷◌, ◌++◌, map, append_assoc, foldl-append, Permᴰ}
use Prim.Native.Nat.{ℕ, ◌+◌, ◌*◌}
use native.Mathlib.Omega.{arith}
use lib.Dec.{T, eqb}
use lib.Ieee.{Float, binary64, fits, mul, lt}
use lib.Ieee.Bits.{of_bits-fits}
use lib.ListN.{length}
use borrow.Author.Tests.{ne_eqb}
use Rattle.leaves.specs.Bounds.{larger_of}
use Rattle.leaves.specs.Constants.{plus_zero, physical_limit}
use Rattle.leaves.proofs.Choices.{larger_keeps, larger_swap}
use Rattle.leaves.proofs.Folds.{All, all_append, fold_keeps, fold_perm}
use Rattle.space.specs.declared.vectors.Place.{Place}
use Rattle.sheet.specs.Content.{Point, point, Coedge, Sheet, ring_points}
use Rattle.answers.specs.Outcome.{Check, check, first, Numbers, refused, settled}
use Rattle.answers.specs.Limits.{beyond}
use Rattle.sheet.specs.Checks.{content_checks}
use Rattle.sheet.proofs.BlockOrder.{with_rings}
use Rattle.answers.proofs.FirstCheck.{append_none, first_refused, none_fails}
use Rattle.sheet.proofs.Checked.{content_numbered}
use Rattle.answers.proofs.Permutations.{any_of_perm, map_perm, perm_length}
use Rattle.sheet.proofs.Reading.{ClearPoint, ClearDeviation}
use Rattle.chart.specs.Chart.{chosen, frame_checks}
use Rattle.frame.specs.Framing.{point_count, phase_wrong}
use Rattle.points.specs.Written.{written_point}
use Rattle.chart.proofs.AnyOrder.{same_content, same_phase, same_count, moved_perm, same_chosen, same_frame_checks, same_answer}
use Rattle.answers.proofs.Settled.{settled_refused}
use Rattle.physical.specs.Space.{physical_clearance}
use Rattle.physical.specs.Images.{ring_images}
use Rattle.picker.specs.Images.{last_image}
use Rattle.physical.specs.Physical.{deviates, greatest_deviation, eight, physical_least, too_close}
use Rattle.picker.specs.Answered.{answered_at}
use Rattle.picker.specs.ImagePick.{image_limit, images_wrong, image_close}
use Rattle.physical.specs.Plane.{on_plane, plane_images_of}
use Rattle.picker.specs.PlanePick.{plane_images, plane_point, no_plane, plane_close}
use Rattle.physical.proofs.Nearness.{physical_perm}
use Rattle.picker.proofs.Picks.{image_rows, plane_rows}

-- ---- the greatest deviation

abbrev Held : Float → Type 0
Held d = T (fits binary64 d)

-- with one coedge more
abbrev larger_step : Float → Coedge → Float
larger_step d c = larger_of d c.deviation

step_held : (d : Float) (c : Coedge) → Held d → ClearDeviation c → Held (larger_step d c)
step_held d c h k = larger_keeps Held d c.deviation h k.held

deviates_held : (d : Float) (r : List Coedge) → Held d → All ClearDeviation r → Held (deviates d r)
unfolding deviates
deviates_held d r h k = fold_keeps larger_step Held ClearDeviation step_held r k d h

deviates_swap : (d : Float) (a b : List Coedge) → Held d → All ClearDeviation a → All ClearDeviation b → deviates (deviates d a) b ≡ deviates (deviates d b) a
unfolding deviates
deviates_swap d a b h p q =
    sym (foldl-append larger_step d a b)
    ∙ fold_perm larger_step Held ClearDeviation step_held (λ d a b h p q. larger_swap binary64 d a.deviation b.deviation h p q) (Permᴰ.append_comm a b) (all_append ClearDeviation a b p q) d h
    ∙ foldl-append larger_step d b a

deviation_perm : {rings rings' : List (List Coedge)} → Permᴰ rings rings' → All (All ClearDeviation) rings → greatest_deviation rings ≡ greatest_deviation rings'
unfolding greatest_deviation
deviation_perm d clear = fold_perm deviates Held (All ClearDeviation) deviates_held deviates_swap d clear plus_zero (of_bits-fits binary64 0)

-- ---- a pick of a sheet's content

-- the rows behind the layout's: the content's, those of the call between 7 and 11, the chart's, and 15
abbrev pub content_rows : Sheet → List Check → ℕ → Bool → List Check
content_rows z own phase close = content_checks z ++ (own ++ frame_checks z phase) ++ check 15 close ∷ []

abbrev pub content_pick : Sheet → List Check → ℕ → Place → Bool → Numbers
content_pick z own phase p close = settled (first (content_rows z own phase close)) (answered_at p (chosen z phase))

abbrev pub image_pick : Sheet → ℕ → List Float → Numbers
image_pick z phase images = content_pick z (image_rows z phase images) phase (last_image z images) (image_close z images)

abbrev pub plane_pick : Sheet → Numbers
plane_pick z = content_pick z (plane_rows z) 0 (plane_point z) (plane_close z)

module _ (z : Sheet) (rings : List (List Coedge)) (d : Permᴰ z.rings rings) where
  abbrev z' : Sheet
  z' = with_rings z rings

  same_images_wrong : {images images' : List Float} → Permᴰ images images' → images_wrong z images ≡ images_wrong z' images'
  unfolding images_wrong
  same_images_wrong e = λ i. not (eqb (perm_length e i) (3 * (same_count z rings d i + 1))) || any_of_perm (beyond image_limit) e i

  module _ (points : All (λ (r : List Coedge). All ClearPoint (ring_points r)) z.rings) (deviations : All (All ClearDeviation) z.rings) where
    same_least : physical_least z.rings ≡ physical_least rings
    unfolding physical_least
    same_least = ap (λ (x : Float). larger_of (mul binary64 x eight) physical_limit) (deviation_perm d deviations)

    same_close : {p p' : Place} {images images' : List (List Place)} → p ≡ p' → Permᴰ images images' → too_close z p images ≡ too_close z' p' images'
    unfolding too_close
    same_close {p} {p'} {images} {images'} e k =
        ap₂ (λ (x y : Float). not (lt x y)) same_least (physical_perm p k ∙ ap (λ (q : Place). physical_clearance q images') e)

    same_pick : {own own' : List Check} (phase : ℕ) {p p' : Place} {close close' : Bool} → own ≡ own' → p ≡ p' → close ≡ close'
        → content_pick z own phase p close ≡ content_pick z' own' phase p' close'
    same_pick phase o e k =
        ap₂ settled (ap first (λ i. same_content z rings d i ++ (o i ++ same_frame_checks z rings d phase points i) ++ check 15 (k i) ∷ [])) (ap₂ answered_at e (same_chosen z rings d phase points))

    -- ---- on the plane

    same_point : plane_point z ≡ plane_point z'
    unfolding plane_point
    same_point = ap (λ (n : Numbers). on_plane z.plane (point n.x n.y)) (same_answer z rings d 0 points)

    plane_perm : Permᴰ (plane_images z) (plane_images z')
    unfolding plane_images plane_images_of
    plane_perm = map_perm (map (λ (p : Point). on_plane z.plane (written_point 0 p))) (moved_perm z rings d 0)

    same_plane_close : plane_close z ≡ plane_close z'
    unfolding plane_close
    same_plane_close = same_close same_point plane_perm

    pub same_plane_pick : plane_pick z ≡ plane_pick z'
    unfolding no_plane
    same_plane_pick = same_pick {own = check 8 (no_plane z) ∷ []} 0 refl same_point same_plane_close

    -- ---- the images in another order: each ring's where the ring is, the last as it was

    module _ {images images' : List Float} (e : Permᴰ images images') (ringwise : Permᴰ (ring_images z.rings images) (ring_images rings images')) (last : last_image z images ≡ last_image z' images') where
      same_image_close : image_close z images ≡ image_close z' images'
      unfolding image_close
      same_image_close = same_close last ringwise

      pub same_image_pick : (phase : ℕ) → image_pick z phase images ≡ image_pick z' phase images'
      same_image_pick phase = same_pick phase (λ i. check 8 (same_phase z rings d phase i) ∷ check 10 (same_images_wrong e i) ∷ []) last same_image_close

-- ---- images of wrong length

module _ (z : Sheet) (phase : ℕ) (images : List Float) where
  abbrev own : List Check
  own = check 8 (phase_wrong z phase) ∷ check 10 (images_wrong z images) ∷ []

  -- the rows down to 10
  abbrev rows_to10 : List Check
  rows_to10 = content_checks z ++ own

  module _ (wrong : length images ≡ 3 * (point_count z + 1) → ⊥) where
    length_wrong_lem : images_wrong z images ≡ true
    unfolding images_wrong
    length_wrong_lem = rw (ne_eqb (length images) (3 * (point_count z + 1)) wrong)

    some_fails : first rows_to10 ≡ 0 → ⊥
    some_fails e = true≢false (sym length_wrong_lem ∙ (none_fails own (omega arith) (append_none (content_checks z) own (content_numbered z) e).1).1.0)

    -- the rows behind them do not matter
    wrong_first : first (content_rows z own phase (image_close z images)) ≡ first rows_to10
    wrong_first =
        let last = check 15 (image_close z images) ∷ [] in
        ap first (append_assoc (content_checks z) (own ++ frame_checks z phase) last ∙ sym (append_assoc (content_checks z) own (frame_checks z phase ++ last)))
        ∙ first_refused rows_to10 (frame_checks z phase ++ last) some_fails

    wrong_refused : image_pick z phase images ≡ refused (first rows_to10)
    wrong_refused =
        let answer = answered_at (last_image z images) (chosen z phase) in
        ap (λ (r : ℕ). settled r answer) wrong_first ∙ settled_refused (first rows_to10) answer some_fails

pub same_wrong_pick : (z : Sheet) (rings : List (List Coedge)) → Permᴰ z.rings rings → (phase : ℕ) (images : List Float) → (length images ≡ 3 * (point_count z + 1) → ⊥)
    → image_pick z phase images ≡ image_pick (with_rings z rings) phase images
same_wrong_pick z rings d phase images wrong =
    let wrong' : length images ≡ 3 * (point_count (with_rings z rings) + 1) → ⊥ = λ e. wrong (e ∙ ap (λ (n : ℕ). 3 * (n + 1)) (sym (same_count z rings d))) in
    wrong_refused z phase images wrong
    ∙ ap (λ (cs : List Check). refused (first cs)) (λ i. same_content z rings d i ++ check 8 (same_phase z rings d phase i) ∷ check 10 (same_images_wrong z rings d (Permᴰ.refl images) i) ∷ [])
    ∙ sym (wrong_refused (with_rings z rings) phase images wrong')
