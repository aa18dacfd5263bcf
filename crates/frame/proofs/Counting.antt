-- How many points a sheet's rings have, and as many moved points and marks.
use mathlib.Core.List.{List, [], ◌∷◌, flat_map}
use mathlib.Core.Path.{◌≡◌, refl}
use Prim.Native.Nat.{ℕ, ◌+◌}
use native.Mathlib.Omega.{arith}
use lib.ListN.{length, length-append}
use Rattle.std.specs.List.{sum_by}
use Rattle.std.proofs.lemmas.List.Sums.{sum_by-cons}
use Rattle.leaves.proofs.Folds.{sum_cons}
use Rattle.sheet.specs.Content.{Point, Coedge, Sheet, ring_points}
use Rattle.sheet.proofs.BlockOrder.{with_rings}
use Rattle.sheet.proofs.Checked.{points_of}
use Rattle.points.specs.Unroll.{moved_ring}
use Rattle.points.proofs.Moved.{length_moved}
use Rattle.frame.specs.Framing.{point_count}

module _ (s : Sheet) where
  pub count_none : point_count (with_rings s []) ≡ 0
  unfolding point_count
  count_none = refl

  pub count_cons : (r : List Coedge) (rs : List (List Coedge)) → point_count (with_rings s (r ∷ rs)) ≡ length (ring_points r) + point_count (with_rings s rs)
  unfolding point_count
  count_cons r rs = sum_cons (λ (r : List Coedge). length (ring_points r)) r rs

-- ---- the points of rings

abbrev pub own_points : List Coedge → ℕ
own_points ring = length (ring_points ring)

sum_is : (rings : List (List Coedge)) → sum_by own_points rings ≡ points_of rings
sum_is [] = refl
sum_is (r ∷ rs) = omega (arith, sum_by-cons own_points r rs, sum_cons own_points r rs, sum_is rs)

pub points_summed : (s : Sheet) → sum_by own_points s.rings ≡ point_count s
unfolding point_count
points_summed s = sum_is s.rings

-- of each point something
pub parts_length : {A : Type 0} (part : List Coedge → List A) → ((r : List Coedge) → length (part r) ≡ own_points r) → (rings : List (List Coedge)) → length (flat_map part rings) ≡ points_of rings
unfolding flat_map
parts_length part same [] = refl
parts_length part same (r ∷ rs) = simp length-append (omega (arith, same r, sum_cons own_points r rs, parts_length part same rs))

-- ---- a ring's moved points

module _ (kind phase : ℕ) where
  abbrev pub moved_of : List Coedge → List Point
  moved_of ring = moved_ring kind phase (ring_points ring)

  pub moved_length : (ring : List Coedge) → length (moved_of ring) ≡ own_points ring
  moved_length ring = length_moved kind phase (ring_points ring)
