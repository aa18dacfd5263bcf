-- "With a refusal all other result numbers are 0", of the vertex fallback: 16 and 20 in their order, then 21. Where its
-- status is not 0 it answers nothing but its status, which is a number of its table.
use mathlib.Core.Path.{◌≡◌, refl}
use mathlib.Core.List.{List, [], ◌∷◌}
use mathlib.Core.Logic.{inl, inr}
use Prim.Native.Nat.{ℕ}
use lib.Ieee.{Float}
use Rattle.space.specs.Places.{triples, place_at}
use Rattle.space.specs.Vectors.{cross_of}
use Rattle.space.specs.declared.vectors.Place.{Place}
use Rattle.answers.specs.Outcome.{refused, OneOf}
use Rattle.answers.proofs.FirstCheck.{first_holds}
use Rattle.answers.proofs.Settled.{settled_zeros, settled_holds}
use Rattle.vertex_fallback.specs.Vertices.{point_among, point_on_of}
use Rattle.vertex_fallback.proofs.Serving.{among_status, among_zeros}

module _ (u_axis normal corners : List Float) where
  abbrev u : Place
  u = place_at u_axis 0

  abbrev v : Place
  v = cross_of (place_at normal 0) u

  pub point_on_refused : ((point_on_of u_axis normal corners).status ≡ 0 → ⊥) → point_on_of u_axis normal corners ≡ refused (point_on_of u_axis normal corners).status
  unfolding point_on_of
  point_on_refused = settled_zeros _ (point_among u v (triples corners)) (among_zeros u v (triples corners))

  pub point_on_status : OneOf (0 ∷ 16 ∷ 20 ∷ 21 ∷ []) (point_on_of u_axis normal corners).status
  unfolding point_on_of
  point_on_status =
      let P : ℕ → Type 0 = OneOf (0 ∷ 16 ∷ 20 ∷ 21 ∷ []) in
      settled_holds P _ (point_among u v (triples corners)) (first_holds P (inl refl) _ (inr (inl refl), (inr (inr (inl refl)), tt))) (among_status u v (triples corners) P (inl refl) (inr (inr (inr (inl refl)))))
