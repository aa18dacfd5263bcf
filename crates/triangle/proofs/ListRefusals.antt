-- "With a refusal all other result numbers are 0", of the triangle on flat lists: on every two lists, every radius and
-- every sense the status is 0 or a number of the table, and where it is not 0 the five other numbers are zeros. A wrong
-- list is refused by 16; else the answer is that of `triangle_of`, and so are its refusals.
use mathlib.Core.Logic.{inl, inr}
use mathlib.Core.Path.{◌≡◌, refl}
use mathlib.Core.Bool.{Bool, true, false, cond}
use mathlib.Core.List.{List, [], ◌∷◌}
use Prim.Native.Nat.{ℕ}
use lib.Ieee.{Float}
use Rattle.space.specs.Places.{place_at}
use Rattle.answers.specs.Outcome.{Numbers, refused, OneOf}
use Rattle.sides.specs.declared.side.Sphere.{Sphere}
use Rattle.sides.specs.declared.side.Side.{Side}
use Rattle.triangle.specs.Triangle.{triangle_of}
use Rattle.triangle.specs.Lists.{lists_wrong, side_from, triangle_lists_of}
use Rattle.triangle.proofs.Refusals.{statuses, triangle_refused, triangle_status}

module _ (centre : List Float) (radius : Float) (sense : ℕ) (sides : List Float) where
  -- what holds of a refusal by 16 and of the sides' triangle holds of the call
  either : (P : Numbers → Type 0) → P (refused 16) → ((sphere : Sphere) (read : List Side) → P (triangle_of sphere sense read)) → P (triangle_lists_of centre radius sense sides)
  unfolding triangle_lists_of
  either P wrong right = by (lists_wrong centre sides) (right (record { centre = place_at centre 0; radius = radius }) (side_from sides 0 ∷ side_from sides 19 ∷ side_from sides 38 ∷ []))
    where
      by : {n : Numbers} (b : Bool) → P n → P (cond b (refused 16) n)
      by true p = wrong
      by false p = p

  pub triangle_lists_refused : ((triangle_lists_of centre radius sense sides).status ≡ 0 → ⊥) → triangle_lists_of centre radius sense sides ≡ refused (triangle_lists_of centre radius sense sides).status
  triangle_lists_refused =
      either (λ (n : Numbers). (n.status ≡ 0 → ⊥) → n ≡ refused n.status) (λ h. refl) (λ sphere read. triangle_refused sphere sense read)

  -- a number of the table
  pub triangle_lists_status : OneOf statuses (triangle_lists_of centre radius sense sides).status
  triangle_lists_status = either (λ (n : Numbers). OneOf statuses n.status) (inr (inl refl)) (λ sphere read. triangle_status sphere sense read)
