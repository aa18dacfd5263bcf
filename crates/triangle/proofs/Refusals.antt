-- Demand 1, of the triangle on arrays: a status other than 0 is a number of the table, with zeros beside it. Behind the
-- rows 16 and 17 stands the table of the directions, behind that the answer, whose status is 0.
use mathlib.Core.Path.{◌≡◌, refl}
use mathlib.Core.List.{List, [], ◌∷◌}
use mathlib.Core.Logic.{inl, inr}
use Prim.Native.Nat.{ℕ}
use Rattle.answers.specs.Outcome.{refused, OneOf}
use Rattle.answers.proofs.FirstCheck.{first_holds}
use Rattle.answers.proofs.Settled.{settled_zeros, settled_holds}
use Rattle.sides.specs.declared.side.Sphere.{Sphere}
use Rattle.sides.specs.declared.side.Side.{Side}
use Rattle.triangle.specs.declared.arcs.Arc.{Arc}
use Rattle.triangle.specs.Triangle.{triangle_among, triangle_of}

-- an answer, and the numbers of the table
abbrev pub statuses : List ℕ
statuses = 0 ∷ 16 ∷ 17 ∷ 18 ∷ 19 ∷ []

module _ (sphere : Sphere) (sense : ℕ) (arcs : List Arc) where
  among_refused : ((triangle_among sphere sense arcs).status ≡ 0 → ⊥) → triangle_among sphere sense arcs ≡ refused (triangle_among sphere sense arcs).status
  unfolding triangle_among
  among_refused = settled_zeros _ _ (λ h. absurd (h refl))

  among_status : OneOf statuses (triangle_among sphere sense arcs).status
  unfolding triangle_among
  among_status = settled_holds (OneOf statuses) _ _ (first_holds (OneOf statuses) (inl refl) _ (inr (inr (inr (inl refl))), (inr (inr (inr (inr (inl refl)))), tt))) (inl refl)

module _ (sphere : Sphere) (sense : ℕ) (sides : List Side) where
  pub triangle_refused : ((triangle_of sphere sense sides).status ≡ 0 → ⊥) → triangle_of sphere sense sides ≡ refused (triangle_of sphere sense sides).status
  unfolding triangle_of
  triangle_refused = settled_zeros _ _ (among_refused sphere sense _)

  -- a number of the table
  pub triangle_status : OneOf statuses (triangle_of sphere sense sides).status
  unfolding triangle_of
  triangle_status = settled_holds (OneOf statuses) _ _ (first_holds (OneOf statuses) (inl refl) _ (inr (inl refl), (inr (inr (inl refl)), tt))) (among_status sphere sense _)
