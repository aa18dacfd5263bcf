-- The round fallback's refusals: 16 and 22 in their order, then 23. A refusal's other numbers are 0, and its number is
-- one of these.
use mathlib.Core.Logic.{inl, inr}
use mathlib.Core.Path.{◌≡◌, refl}
use mathlib.Core.Bool.{false, ◌||◌}
use mathlib.Core.List.{List, [], ◌∷◌}
use Prim.Native.Nat.{ℕ, ◌≤◌}
use borrow.Author.Tests.{ltb-false}
use lib.Dec.{eqb, ltb}
use lib.Ieee.{Float, binary64, sub, le}
use lib.ListN.{length}
use Rattle.leaves.specs.Constants.{micro}
use Rattle.answers.specs.Outcome.{refused, OneOf}
use Rattle.answers.proofs.AnyOf.{neither}
use Rattle.answers.proofs.FirstCheck.{first_holds}
use Rattle.answers.proofs.Settled.{settled_zeros, settled_holds}
use Rattle.points.specs.Bounds.{least, greatest}
use Rattle.round_fallback.specs.Cylinder.{heights_wrong, corner_angles, middle_among, cylinder_point_of}

module _ (heights angles : List Float) where
  -- where 22 does not hold
  pub few_angles : heights_wrong heights angles ≡ false → length angles ≤ 256
  unfolding heights_wrong
  few_angles e =
      let none = eqb (length heights) 0 in
      let many = ltb 256 (length heights) in
      let many_angles = ltb 256 (length angles) in
      ltb-false 256 (length angles) (neither (none || many) many_angles (neither ((none || many) || many_angles) (le (sub binary64 (greatest heights) (least heights)) micro) e).0).1

  -- ---- any refusal

  middle_told : ((middle_among heights (corner_angles angles)).status ≡ 0 → ⊥) → middle_among heights (corner_angles angles) ≡ refused (middle_among heights (corner_angles angles)).status
  unfolding middle_among
  middle_told = settled_zeros _ _ (λ h. absurd (h refl))

  -- "With a refusal all other result numbers are 0"
  pub cylinder_refused : ((cylinder_point_of heights angles).status ≡ 0 → ⊥) → cylinder_point_of heights angles ≡ refused (cylinder_point_of heights angles).status
  unfolding cylinder_point_of
  cylinder_refused = settled_zeros _ (middle_among heights (corner_angles angles)) middle_told

  -- an answer, and the numbers of the table
  abbrev statuses : List ℕ
  statuses = 0 ∷ 16 ∷ 22 ∷ 23 ∷ []

  -- the status is one of them
  middle_status : OneOf statuses (middle_among heights (corner_angles angles)).status
  unfolding middle_among
  middle_status = settled_holds (OneOf statuses) _ _ (first_holds (OneOf statuses) (inl refl) _ (inr (inr (inr (inl refl))), tt)) (inl refl)

  pub cylinder_status : OneOf statuses (cylinder_point_of heights angles).status
  unfolding cylinder_point_of
  cylinder_status =
      settled_holds (OneOf statuses) _ (middle_among heights (corner_angles angles)) (first_holds (OneOf statuses) (inl refl) _ (inr (inl refl), (inr (inr (inl refl)), tt))) middle_status
