-- A list's places on the axes, and the first corner that serves: found, and as an outcome.
use mathlib.Core.Path.{◌≡◌, refl, ap}
use mathlib.Core.Bool.{Bool, true, false, cond}
use mathlib.Core.List.{List, [], ◌∷◌, ◌++◌, map}
use Prim.Native.Nat.{ℕ, ◌+◌, ◌/◌, ◌≤◌}
use native.Mathlib.Omega.{arith}
use lib.Ieee.{Float}
use lib.ListN.{length, length-append, length-map}
use Rattle.std.proofs.Common.{Some, None}
use Rattle.std.specs.List.{find}
use Rattle.space.proofs.Triples.{length_triples}
use Rattle.space.specs.Places.{triples}
use Rattle.space.specs.declared.vectors.Place.{Place}
use Rattle.answers.specs.Outcome.{refused}
use Rattle.answers.specs.Answers.{place_numbers}
use Rattle.sheet.specs.Content.{Point}
use Rattle.points.proofs.InPlace.{Written}
use Rattle.vertex_fallback.specs.declared.corners.Corner.{Corner}
use Rattle.vertex_fallback.specs.Vertices.{corners_of, centre_of, flattened, serves_of, first_serving, point_among}

-- ---- places

-- of the places in the list k are written on the axes, and these are left
module _ (xs : List Float) (left : List Place) (f : Place → Point) {before now : List Point} {k : ℕ} (w : Written before now k (map f left) (map f (triples xs))) where
  pub left_count : k + length left ≡ length xs / 3
  left_count =
      let e : length (w.done ++ map f left) ≡ length (map f (triples xs)) = ap length w.all in
      omega (arith, w.count, length_triples xs, simp (length-append, length-map) at e)

  pub none_left : length xs / 3 ≤ k → map f left ≡ []
  none_left h = by left (omega (arith, left_count))
    where
      by : (ps : List Place) → length ps ≤ 0 → map f ps ≡ []
      by [] e = refl
      by (p ∷ ps) e = absurd (omega arith)

-- ---- the first corner that serves

module _ (serves : Corner → Bool) where
  pub found : (cs : List Corner) (c : Corner) → find serves cs ≡ Some c → first_serving serves cs ≡ place_numbers (centre_of c)
  unfolding first_serving
  found [] c e = absurd (cc)
  found (d ∷ cs) c e = by (serves d) e (found cs c)
    where
      by : (b : Bool) → cond b (Some d) (find serves cs) ≡ Some c → (find serves cs ≡ Some c → first_serving serves cs ≡ place_numbers (centre_of c)) → cond b (place_numbers (centre_of d)) (first_serving serves cs) ≡ place_numbers (centre_of c)
      by true e h = let same : d ≡ c = cc in ap (λ (x : Corner). place_numbers (centre_of x)) same
      by false e h = h e

  pub none_found : (cs : List Corner) → find serves cs ≡ None → first_serving serves cs ≡ refused 21
  unfolding first_serving
  none_found [] e = refl
  none_found (d ∷ cs) e = by (serves d) e (none_found cs)
    where
      by : (b : Bool) → cond b (Some d) (find serves cs) ≡ None → (find serves cs ≡ None → first_serving serves cs ≡ refused 21) → cond b (place_numbers (centre_of d)) (first_serving serves cs) ≡ refused 21
      by true e h = absurd (cc)
      by false e h = h e

-- ---- as an outcome

module _ (serves : Corner → Bool) where
  serving_status : (P : ℕ → Type 0) → P 0 → P 21 → (cs : List Corner) → P (first_serving serves cs).status
  unfolding first_serving
  serving_status P found none [] = none
  serving_status P found none (c ∷ cs) = by (serves c) (serving_status P found none cs)
    where
      by : (b : Bool) → P (first_serving serves cs).status → P (cond b (place_numbers (centre_of c)) (first_serving serves cs)).status
      by true h = found
      by false h = h

  serving_zeros : (cs : List Corner) → ((first_serving serves cs).status ≡ 0 → ⊥) → first_serving serves cs ≡ refused (first_serving serves cs).status
  unfolding first_serving
  serving_zeros [] h = refl
  serving_zeros (c ∷ cs) h = by (serves c) (serving_zeros cs) h
    where
      by : (b : Bool)
          → (((first_serving serves cs).status ≡ 0 → ⊥) → first_serving serves cs ≡ refused (first_serving serves cs).status)
          → ((cond b (place_numbers (centre_of c)) (first_serving serves cs)).status ≡ 0 → ⊥)
          → cond b (place_numbers (centre_of c)) (first_serving serves cs) ≡ refused (cond b (place_numbers (centre_of c)) (first_serving serves cs)).status
      by true later h = absurd (h refl)
      by false later h = later h

module _ (u v : Place) (places : List Place) where
  -- its status is 0 or 21
  pub among_status : (P : ℕ → Type 0) → P 0 → P 21 → P (point_among u v places).status
  unfolding point_among
  among_status P found none = serving_status (serves_of u v (map (flattened u v) places)) P found none (corners_of places)

  pub among_zeros : ((point_among u v places).status ≡ 0 → ⊥) → point_among u v places ≡ refused (point_among u v places).status
  unfolding point_among
  among_zeros = serving_zeros (serves_of u v (map (flattened u v) places)) (corners_of places)
