-- Images that go with their blocks. The images of a list that is long enough, cut up by the blocks' own coedge counts
-- and put together again with what stands behind them, are the list.
-- Put together in another order, they are cut up by the blocks in that order into the same parts: each ring has the
-- images that it had, and what stands behind them stays.
use mathlib.Core.Path.{◌≡◌, refl, sym, ap, ap₂, ◌∙◌}
use mathlib.Core.List.{List, [], ◌∷◌, ◌++◌, map, flatten, append_assoc}
use Prim.Native.Nat.{ℕ, ◌+◌, ◌*◌, ◌≤◌}
use native.Mathlib.Nat.{add-zero}
use native.Mathlib.Omega.{arith}
use lib.Ieee.{Float, nan}
use lib.ListN.{length, get_or, take, drop, take-append-drop, length-append, length-drop}
use lib.Seq.{length-take-le, get_or-drop, drop-drop, take_at, drop_at}
use Rattle.leaves.proofs.Folds.{All}
use Rattle.space.specs.Vectors.{place}
use Rattle.space.specs.Places.{triples, place_at}
use Rattle.space.specs.declared.vectors.Place.{Place}
use Rattle.sheet.specs.Content.{Sheet}
use Rattle.sheet.specs.Layout.{ring}
use Rattle.sheet.proofs.BlockOrder.{with_rings}
use Rattle.frame.specs.Framing.{point_count}
use Rattle.frame.proofs.Counting.{count_none, count_cons}
use Rattle.physical.specs.Images.{image_numbers, ring_images}
use Rattle.picker.specs.Images.{last_image}
use Rattle.picker.specs.Demand.{Imaged, imaged_blocks}

abbrev pub block_of : Imaged → List ℕ
block_of r = r.block

abbrev pub images_of : Imaged → List Float
images_of r = r.images

abbrev pub places_of : Imaged → List Place
places_of r = triples r.images

module _ (v : ℕ) where
  -- as many numbers as its block's points have
  abbrev pub Fitting : Imaged → Type 0
  Fitting r = length r.images ≡ image_numbers (ring v r.block)

  -- ---- the parts of a list

  pub blocks_back : (bs : List (List ℕ)) (images : List Float) → map block_of (imaged_blocks v bs images) ≡ bs
  unfolding imaged_blocks
  blocks_back [] images = refl
  blocks_back (b ∷ bs) images = ap (λ (l : List (List ℕ)). b ∷ l) (blocks_back bs (drop (image_numbers (ring v b)) images))

  -- each ring's images are its part's
  pub ring_images_lem : (bs : List (List ℕ)) (images : List Float) → ring_images (map (ring v) bs) images ≡ map places_of (imaged_blocks v bs images)
  unfolding ring_images imaged_blocks
  ring_images_lem [] images = refl
  ring_images_lem (b ∷ bs) images = ap (λ (l : List (List Place)). triples (take (image_numbers (ring v b)) images) ∷ l) (ring_images_lem bs (drop (image_numbers (ring v b)) images))

  -- parts that fit are cut up into themselves, whatever stands behind them
  pub parts_back : (parts : List Imaged) → All Fitting parts → (rest : List Float) → imaged_blocks v (map block_of parts) (flatten (map images_of parts) ++ rest) ≡ parts
  unfolding imaged_blocks flatten
  parts_back [] h rest = refl
  parts_back (r ∷ rs) h rest =
      let n = image_numbers (ring v r.block) in
      let later = flatten (map images_of rs) in
      let e : (r.images ++ later) ++ rest ≡ r.images ++ (later ++ rest) = append_assoc r.images later rest in
      ap₂ (λ (xs : List Float) (l : List Imaged). record { block = r.block; images = xs } ∷ l) (ap (take n) e ∙ take_at r.images (later ++ rest) n h.0)
      (ap (imaged_blocks v (map block_of rs)) (ap (drop n) e ∙ drop_at r.images (later ++ rest) n h.0) ∙ parts_back rs h.1 rest)

  -- ---- how many numbers they are

  module _ (z : Sheet) where
    -- the images of these blocks' points
    abbrev pub numbers_in : List (List ℕ) → ℕ
    numbers_in bs = 3 * point_count (with_rings z (map (ring v) bs))

    numbers_none : numbers_in [] ≡ 0
    numbers_none = omega (arith, count_none z)

    numbers_cons : (b : List ℕ) (bs : List (List ℕ)) → numbers_in (b ∷ bs) ≡ image_numbers (ring v b) + numbers_in bs
    unfolding image_numbers
    numbers_cons b bs = omega (arith, count_cons z (ring v b) (map (ring v) bs))

    pub images_back : (bs : List (List ℕ)) (images : List Float) → flatten (map images_of (imaged_blocks v bs images)) ++ drop (numbers_in bs) images ≡ images
    unfolding imaged_blocks flatten
    images_back [] images = ap (λ (n : ℕ). drop n images) numbers_none
    images_back (b ∷ bs) images =
        let n = image_numbers (ring v b) in
        let later = flatten (map images_of (imaged_blocks v bs (drop n images))) in
        append_assoc (take n images) later (drop (numbers_in (b ∷ bs)) images)
        ∙ ap (λ (l : List Float). take n images ++ l)
        (ap (λ (l : List Float). later ++ l) (ap (λ (m : ℕ). drop m images) (numbers_cons b bs) ∙ sym (drop-drop (numbers_in bs) n images)) ∙ images_back bs (drop n images))
        ∙ take-append-drop n images

    pub parts_fit : (bs : List (List ℕ)) (images : List Float) → numbers_in bs ≤ length images → All Fitting (imaged_blocks v bs images)
    unfolding imaged_blocks
    parts_fit [] images h = tt
    parts_fit (b ∷ bs) images h =
        let n = image_numbers (ring v b) in
        let e = numbers_cons b bs in
        let l : numbers_in bs ≤ length (drop n images) = simp length-drop (omega arith) in
        (length-take-le n images (omega arith), parts_fit bs (drop n images) l)

    pub parts_length : (parts : List Imaged) → All Fitting parts → length (flatten (map images_of parts)) ≡ numbers_in (map block_of parts)
    unfolding flatten
    parts_length [] h = sym numbers_none
    parts_length (r ∷ rs) h = length-append r.images (flatten (map images_of rs)) ∙ ap₂ ◌+◌ h.0 (parts_length rs h.1) ∙ sym (numbers_cons r.block (map block_of rs))

-- ---- the last image is what stands behind those of all points

place_behind : (xs : List Float) (n : ℕ) → place_at xs n ≡ place_at (drop n xs) 0
place_behind xs n = λ i. place ((ap (λ (m : ℕ). get_or xs m nan) (sym (add-zero n)) ∙ sym (get_or-drop n xs 0 nan)) i) (sym (get_or-drop n xs 1 nan) i) (sym (get_or-drop n xs 2 nan) i)

pub last_behind : (z : Sheet) (images : List Float) → last_image z images ≡ place_at (drop (3 * point_count z) images) 0
unfolding last_image
last_behind z images = place_behind images (3 * point_count z)
