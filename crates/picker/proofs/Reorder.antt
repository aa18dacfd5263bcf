-- "For every reordering of the rings of a sheet whose layout reads, images moved with them, chart, image pick and plane
-- pick each give the same status, point, clearance and count, bit for bit."
-- Here the picks. The same ring blocks in another order, all else in the call the same: the layout reads, the blocks
-- are those, and the six numbers do not change, whether the sheet is refused or not.
-- For image pick each ring's images go where its block goes and the last image stays; a list of images of wrong length
-- stays as it is.
use mathlib.Core.Path.{◌≡◌, sym, ap, ap₂, ◌∙◌, subst}
use mathlib.Core.Bool.{Bool}
use mathlib.Core.List.Permᴰ
use mathlib.Core.List.{List, [], ◌∷◌, ◌++◌, map, flatten, append_assoc, Permᴰ}
use Prim.Native.Nat.{ℕ, ◌+◌, ◌*◌}
use native.Mathlib.Omega.{arith}
use lib.Ieee.{Float}
use lib.ListN.{length, drop}
use lib.Seq.{drop_at}
use Rattle.leaves.proofs.Folds.{All, all_perm}
use Rattle.space.specs.Places.{place_at}
use Rattle.space.specs.declared.vectors.Place.{Place}
use Rattle.sheet.specs.Content.{Coedge, Sheet}
use Rattle.sheet.specs.Layout.{version, head, blocks, ring, sheet_of}
use Rattle.answers.specs.Outcome.{Check, check, first, settled}
use Rattle.sheet.specs.Checks.{layout_checks, content_checks}
use Rattle.sheet.proofs.BlockOrder.{deviations_clear, its_blocks, its_layout, its_rings, its_sheet, rings_are, rings_clear, same_version, whole, with_rings}
use Rattle.answers.proofs.FirstCheck.{first_passed}
use Rattle.sheet.proofs.Checked.{layout_numbered}
use Rattle.answers.proofs.Permutations.{flatten_perm, lift_perm, map_perm}
use Rattle.chart.specs.Chart.{chosen, frame_checks}
use Rattle.frame.specs.Framing.{point_count}
use Rattle.picker.specs.Images.{last_image}
use Rattle.physical.specs.Images.{ring_images}
use Rattle.picker.specs.Answered.{answered_at}
use Rattle.picker.specs.ImagePick.{image_close, image_pick_of}
use Rattle.picker.specs.PlanePick.{plane_close, plane_pick_of, plane_point}
use Rattle.picker.specs.Demand.{Imaged, imaged_blocks, imaged, images_with, sheet_with}
use Rattle.picker.proofs.AnyOrder.{content_pick, image_pick, plane_pick, same_image_pick, same_plane_pick, same_wrong_pick}
use Rattle.picker.proofs.Picks.{image_is, image_rows, pick_checks, pick_of, plane_is, plane_rows}
use Rattle.picker.proofs.Carried.{Fitting, block_of, blocks_back, images_back, images_of, last_behind, numbers_in, parts_back, parts_fit, parts_length, places_of, ring_images_lem}

-- ---- a sheet whose layout reads: its picks are those of its content

module _ (s : List ℕ) (reads : first (layout_checks s) ≡ 0) where
  pick_content : (own : List Check) (phase : ℕ) (p : Place) (close : Bool)
      → pick_of s own phase p close ≡ content_pick (sheet_of s) own phase p close
  unfolding pick_of pick_checks
  pick_content own phase p close =
      let content = content_checks (sheet_of s) in
      let rows = own ++ frame_checks (sheet_of s) phase in
      let last = check 15 close ∷ [] in
      ap (λ (r : ℕ). settled r (answered_at p (chosen (sheet_of s) phase)))
      (ap first (ap (λ (cs : List Check). cs ++ last) (append_assoc (layout_checks s) content rows) ∙ append_assoc (layout_checks s) (content ++ rows) last) ∙ first_passed (layout_checks s) (content ++ rows ++ last) (layout_numbered s) reads)

  plane_content : plane_pick_of s ≡ plane_pick (sheet_of s)
  unfolding plane_point plane_close
  plane_content = plane_is s ∙ pick_content (plane_rows (sheet_of s)) 0 (plane_point (sheet_of s)) (plane_close (sheet_of s))

  image_content : (phase : ℕ) (images : List Float) → image_pick_of s phase images ≡ image_pick (sheet_of s) phase images
  image_content phase images =
      image_is s phase images ∙ pick_content (image_rows (sheet_of s) phase images) phase (last_image (sheet_of s) images) (image_close (sheet_of s) images)

-- ---- of bytes

-- every order of the blocks is that of blocks with their images, whatever the images
pub every_order : (s : List ℕ) (images : List Float) (bs : List (List ℕ)) → Permᴰ (blocks s) bs
    → (parts : List Imaged) × Permᴰ (imaged s images) parts × (map (λ (r : Imaged). r.block) parts ≡ bs)
unfolding imaged
every_order s images bs d = lift_perm block_of (imaged s images) (subst (λ (l : List (List ℕ)). Permᴰ l bs) (sym (blocks_back (version s) (blocks s) images)) d)

module _ (s : List ℕ) (reads : first (layout_checks s) ≡ 0) where
  abbrev z : Sheet
  z = sheet_of s

  module _ (bs : List (List ℕ)) (d : Permᴰ (blocks s) bs) where
    its_plane_pick : plane_pick_of (head s ++ flatten bs) ≡ plane_pick_of s
    its_plane_pick =
        plane_content (head s ++ flatten bs) (its_layout s reads bs d)
        ∙ ap plane_pick (its_sheet s reads bs d)
        ∙ sym (same_plane_pick z (map (ring (version s)) bs) (its_rings s reads bs d) (rings_clear s) (deviations_clear s))
        ∙ sym (plane_content s reads)

    pub plane_pick_reordered : (first (layout_checks (head s ++ flatten bs)) ≡ 0) × (blocks (head s ++ flatten bs) ≡ bs) × (plane_pick_of (head s ++ flatten bs) ≡ plane_pick_of s)
    plane_pick_reordered = (its_layout s reads bs d, its_blocks s reads bs d, its_plane_pick)

    its_image_content : (phase : ℕ) (images : List Float) → image_pick_of (head s ++ flatten bs) phase images ≡ image_pick (with_rings z (map (ring (version s)) bs)) phase images
    its_image_content phase images =
        image_content (head s ++ flatten bs) (its_layout s reads bs d) phase images ∙ ap (λ (y : Sheet). image_pick y phase images) (its_sheet s reads bs d)

    -- "an image list of wrong length stays as it is"
    pub image_pick_wrong_length : (images : List Float) → (length images ≡ 3 * (point_count (sheet_of s) + 1) → ⊥) → (phase : ℕ)
        → image_pick_of (head s ++ flatten bs) phase images ≡ image_pick_of s phase images
    image_pick_wrong_length images wrong phase =
        its_image_content phase images
        ∙ sym (same_wrong_pick z (map (ring (version s)) bs) (its_rings s reads bs d) phase images wrong)
        ∙ sym (image_content s reads phase images)

  -- ---- "each ring's images go where its block goes, the last image stays"

  count_is : 3 * point_count z ≡ numbers_in (version s) z (blocks s)
  count_is = ap (λ (rs : List (List Coedge)). 3 * point_count (with_rings z rs)) (rings_are s)

  module _ (images : List Float) (right : length images ≡ 3 * (point_count (sheet_of s) + 1)) where
    abbrev last : List Float
    last = drop (3 * point_count z) images

    own_sheet : s ≡ sheet_with s (imaged s images)
    unfolding sheet_with imaged
    own_sheet = whole s reads ∙ ap (λ (bs : List (List ℕ)). head s ++ flatten bs) (sym (blocks_back (version s) (blocks s) images))

    own_images : images ≡ images_with s images (imaged s images)
    unfolding images_with imaged
    own_images = sym (ap (λ (n : ℕ). flatten (map images_of (imaged s images)) ++ drop n images) count_is ∙ images_back (version s) z (blocks s) images)

    module _ (parts : List Imaged) (d : Permᴰ (imaged s images) parts) where
      abbrev bs : List (List ℕ)
      bs = map block_of parts

      abbrev images' : List Float
      images' = flatten (map images_of parts) ++ last

      blocks_perm : Permᴰ (blocks s) bs
      unfolding imaged
      blocks_perm = subst (λ (l : List (List ℕ)). Permᴰ l bs) (blocks_back (version s) (blocks s) images) (map_perm block_of d)

      images_perm : Permᴰ images images'
      unfolding images_with
      images_perm = subst (λ (l : List Float). Permᴰ l images') (sym own_images) (Permᴰ.append_right last (flatten_perm (map_perm images_of d)))

      fit : All (Fitting (version s)) parts
      unfolding imaged
      fit = all_perm (Fitting (version s)) d (parts_fit (version s) z (blocks s) images (omega (arith, right, count_is)))

      back : imaged_blocks (version s) bs images' ≡ parts
      back = parts_back (version s) parts fit last

      ringwise : Permᴰ (ring_images z.rings images) (ring_images (map (ring (version s)) bs) images')
      unfolding imaged
      ringwise =
          let before : ring_images z.rings images ≡ map places_of (imaged s images) = ap (λ (rs : List (List Coedge)). ring_images rs images) (rings_are s) ∙ ring_images_lem (version s) (blocks s) images in
          let after : ring_images (map (ring (version s)) bs) images' ≡ map places_of parts = ring_images_lem (version s) bs images' ∙ ap (map places_of) back in
          rw (before, after) (map_perm places_of d)

      same_last : last_image z images ≡ last_image (with_rings z (map (ring (version s)) bs)) images'
      same_last =
          last_behind z images
          ∙ ap (λ (l : List Float). place_at l 0) (sym (drop_at (flatten (map images_of parts)) last (numbers_in (version s) z bs) (parts_length (version s) z parts fit)))
          ∙ sym (last_behind (with_rings z (map (ring (version s)) bs)) images')

      its_image_pick : (phase : ℕ) → image_pick_of (head s ++ flatten bs) phase images' ≡ image_pick_of s phase images
      its_image_pick phase =
          its_image_content bs blocks_perm phase images'
          ∙ sym (same_image_pick z (map (ring (version s)) bs) (its_rings s reads bs blocks_perm) (rings_clear s) (deviations_clear s) images_perm ringwise same_last phase)
          ∙ sym (image_content s reads phase images)

      its_parts : imaged (head s ++ flatten bs) images' ≡ parts
      unfolding imaged
      its_parts = ap₂ (λ (v : ℕ) (l : List (List ℕ)). imaged_blocks v l images') (same_version s reads bs blocks_perm) (its_blocks s reads bs blocks_perm) ∙ back

      pub image_pick_reordered : (s ≡ sheet_with s (imaged s images)) × (images ≡ images_with s images (imaged s images))
          × (first (layout_checks (sheet_with s parts)) ≡ 0) × (blocks (sheet_with s parts) ≡ map (λ (r : Imaged). r.block) parts)
          × (imaged (sheet_with s parts) (images_with s images parts) ≡ parts)
          × ((phase : ℕ) → image_pick_of (sheet_with s parts) phase (images_with s images parts) ≡ image_pick_of s phase images)
      unfolding sheet_with images_with
      image_pick_reordered = (own_sheet, own_images, its_layout s reads bs blocks_perm, its_blocks s reads bs blocks_perm, its_parts, its_image_pick)
