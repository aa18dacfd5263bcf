-- Demand 3, whole: each sentence of it above what it says of chart, image pick and plane pick, on the bytes of a sheet;
-- and its words on images, "each ring's images go where its block goes, the last image stays". The other words are
-- those of the chart's Demand.antt. No contract cites them: the theorems in proofs/ do.
use Rattle.std.specs.Prelude.{◌≡◌, Bool, cond, ℕ, ◌+◌, ◌*◌, Float, length, take, drop}
use mathlib.Core.List.{List, [], ◌∷◌, ◌++◌, map, flatten, Permᴰ}
use Rattle.answers.specs.Outcome.{first, Numbers, refused}
use Rattle.space.specs.declared.vectors.Place.{Place}
use Rattle.sheet.specs.Content.{Point, point, Sheet}
use Rattle.sheet.specs.Layout.{version, head, blocks, ring, sheet_of}
use Rattle.sheet.specs.Checks.{layout_checks}
use Rattle.frame.specs.Framing.{frame, point_count}
use Rattle.chart.specs.Chart.{answered, chart_checks, chart_of}
use Rattle.chart.specs.Demand.{Passes, Rule, GroupsAdd}
use Rattle.search.specs.declared.candidate.Candidate.{Candidate}
use Rattle.physical.specs.Images.{image_numbers}
use Rattle.physical.specs.Physical.{too_close}
use Rattle.physical.specs.Plane.{on_plane}
use Rattle.picker.specs.Answered.{answered_at}
use Rattle.picker.specs.Images.{last_image}
use Rattle.picker.specs.ImagePick.{image_checks, image_close, image_pick_of}
use Rattle.picker.specs.PlanePick.{plane_checks, plane_images, plane_pick_of}

-- ---- blocks with their images

-- a ring's block, and the images of its points
pub record Imaged : Type 0 where
  pub block : List ℕ
  pub images : List Float

-- blocks of this version with their images, as many of each as its own ring has
unfoldable pub imaged_blocks : ℕ → List (List ℕ) → List Float → List Imaged
imaged_blocks version [] images = []
imaged_blocks version (b ∷ bs) images = record { block = b; images = take (image_numbers (ring version b)) images } ∷ imaged_blocks version bs (drop (image_numbers (ring version b)) images)

-- the blocks of a sheet with their images
unfoldable pub imaged : List ℕ → List Float → List Imaged
unfolding imaged_blocks
imaged s images = imaged_blocks (version s) (blocks s) images

-- the sheet whose blocks are these, behind the head of s
unfoldable pub sheet_with : List ℕ → List Imaged → List ℕ
sheet_with s parts = head s ++ flatten (map (λ (r : Imaged). r.block) parts)

-- their images, and behind them what stands behind the images of all points of s: the last image
unfoldable pub images_with : List ℕ → List Float → List Imaged → List Float
images_with s images parts = flatten (map (λ (r : Imaged). r.images) parts) ++ drop (3 * point_count (sheet_of s)) images

-- ---- demand 1, "a numbered refusal": the numbers of each pick's table, and 0 for a point

abbrev pub image_statuses : List ℕ
image_statuses = 0 ∷ 1 ∷ 2 ∷ 3 ∷ 4 ∷ 5 ∷ 6 ∷ 7 ∷ 8 ∷ 10 ∷ 11 ∷ 12 ∷ 13 ∷ 14 ∷ 15 ∷ []

abbrev pub plane_statuses : List ℕ
plane_statuses = 0 ∷ 1 ∷ 2 ∷ 3 ∷ 4 ∷ 5 ∷ 6 ∷ 7 ∷ 8 ∷ 11 ∷ 12 ∷ 13 ∷ 14 ∷ 15 ∷ []

-- ---- what the picks say of a grid point

-- the grid point's place on the sheet's plane
abbrev pub plane_of : Sheet → Candidate → Place
plane_of s c = on_plane s.plane (point (answered (frame s 0) 0 c).x (answered (frame s 0) 0 c).y)

-- what the picks say of it: 15 where the table gives it, else the last image or the place on the plane, with its
-- clearance in u and v and the count
abbrev pub image_answer : Sheet → List Float → Candidate → Numbers
image_answer s images c = cond (image_close s images) (refused 15) (answered_at (last_image s images) c)

abbrev pub plane_answer : Sheet → Candidate → Numbers
plane_answer s c = cond (too_close s (plane_of s c) (plane_images s)) (refused 15) (answered_at (plane_of s c) c)

-- ---- the demand

pub record Demand3 : Type 0 where
  -- "Suppose a sheet passes every check through the joins. Then the answer is refusal 14 exactly when none of its 31 ×
  -- 31 grid points is covered with computed clearance above 0.01. Otherwise the chosen point is covered. Every other
  -- covered grid point has at most its clearance, and those with the same clearance come after it, u before v. An
  -- answer is this point's, with the coverage, clearance and count of document 01's rules 7 to 9."
  pub chart_grid : (s : List ℕ) (phase : ℕ) (out : List Float) → Passes 13 (chart_checks s phase (length out)) → Rule (sheet_of s) phase (chart_of s phase out).numbers (answered (frame (sheet_of s) phase) phase)
  pub image_grid : (s : List ℕ) (phase : ℕ) (images : List Float) → Passes 13 (image_checks s phase images) → Rule (sheet_of s) phase (image_pick_of s phase images) (image_answer (sheet_of s) images)
  pub plane_grid : (s : List ℕ) → Passes 13 (plane_checks s) → Rule (sheet_of s) 0 (plane_pick_of s) (plane_answer (sheet_of s))
  -- "For every reordering of the rings of a sheet whose layout reads, images moved with them, chart, image pick and
  -- plane pick each give the same status, point, clearance and count, bit for bit."
  -- A reordering: the sheet is its head and its blocks, and those blocks in another order behind that head are a sheet
  -- whose layout reads.
  pub chart_order : (s : List ℕ) (reads : first (layout_checks s) ≡ 0) (bs : List (List ℕ)) (d : Permᴰ (blocks s) bs)
      → (s ≡ head s ++ flatten (blocks s)) × (first (layout_checks (head s ++ flatten bs)) ≡ 0) × (blocks (head s ++ flatten bs) ≡ bs)
      × ((phase : ℕ) (out : List Float) → (chart_of (head s ++ flatten bs) phase out).numbers ≡ (chart_of s phase out).numbers)
  -- images of the right length: each ring's go where its block goes, and the last stays
  pub image_order : (s : List ℕ) (reads : first (layout_checks s) ≡ 0) (images : List Float) (right : length images ≡ 3 * (point_count (sheet_of s) + 1)) (parts : List Imaged) (d : Permᴰ (imaged s images) parts)
      → (s ≡ sheet_with s (imaged s images)) × (images ≡ images_with s images (imaged s images))
      × (first (layout_checks (sheet_with s parts)) ≡ 0) × (blocks (sheet_with s parts) ≡ map (λ (r : Imaged). r.block) parts)
      × (imaged (sheet_with s parts) (images_with s images parts) ≡ parts)
      × ((phase : ℕ) → image_pick_of (sheet_with s parts) phase (images_with s images parts) ≡ image_pick_of s phase images)
  -- every order of the blocks is one of blocks with their images
  pub image_every_order : (s : List ℕ) (images : List Float) (bs : List (List ℕ)) → Permᴰ (blocks s) bs
      → (parts : List Imaged) × Permᴰ (imaged s images) parts × (map (λ (r : Imaged). r.block) parts ≡ bs)
  -- a list of wrong length stays as it is
  pub image_order_wrong_length : (s : List ℕ) (reads : first (layout_checks s) ≡ 0) (bs : List (List ℕ)) (d : Permᴰ (blocks s) bs) (images : List Float) → (length images ≡ 3 * (point_count (sheet_of s) + 1) → ⊥)
      → (phase : ℕ) → image_pick_of (head s ++ flatten bs) phase images ≡ image_pick_of s phase images
  pub plane_order : (s : List ℕ) (reads : first (layout_checks s) ≡ 0) (bs : List (List ℕ)) (d : Permᴰ (blocks s) bs)
      → (first (layout_checks (head s ++ flatten bs)) ≡ 0) × (blocks (head s ++ flatten bs) ≡ bs) × (plane_pick_of (head s ++ flatten bs) ≡ plane_pick_of s)
  -- "For every division of the rings into two groups, and at every grid point, the crossings of the one group and of
  -- the other, with the whole sheet's box and period, add to those of all the rings."
  -- At each call's phase; and for every sheet, whichever checks it passes.
  pub chart_groups : (s : List ℕ) (phase : ℕ) (d : ℕ → Bool) (p : Point) → GroupsAdd (sheet_of s) phase d p
  pub image_groups : (s : List ℕ) (phase : ℕ) (d : ℕ → Bool) (p : Point) → GroupsAdd (sheet_of s) phase d p
  pub plane_groups : (s : List ℕ) (d : ℕ → Bool) (p : Point) → GroupsAdd (sheet_of s) 0 d p
