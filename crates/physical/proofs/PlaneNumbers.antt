-- A plane's places among the sheet's numbers, and its axes, which are read there.
use mathlib.Core.List.{List, map}
use mathlib.Core.Path.{◌≡◌, refl, sym, ap, ◌∙◌}
use Prim.Native.Nat.{ℕ, ◌+◌, ◌*◌, ◌<◌}
use native.Mathlib.Omega.{arith}
use lib.Ieee.{Float, nan}
use lib.ListN.{get_or, drop}
use lib.Seq.{drop-drop}
use Rattle.space.specs.Vectors.{place}
use Rattle.space.specs.Places.{place_at}
use Rattle.sheet.specs.Content.{Point}
use Rattle.sheet.specs.Layout.{number, numbers}
use Rattle.sheet.proofs.Planes.{numbers_at}
use Rattle.physical.specs.Plane.{on_plane, plane_images_of}
use Rattle.physical.specs.Stages.{axes_of, on_axes_of, image_of}

-- three of n numbers, from place k on
place_of_numbers : (n : ℕ) (s : List ℕ) (at k : ℕ) → k + 2 < n → place_at (numbers n (drop at s)) k
    ≡ place (number (drop (at + 8 * k) s)) (number (drop (at + 8 * k + 8) s)) (number (drop (at + 8 * k + 16) s))
place_of_numbers n s at k h =
    let e₁ : at + 8 * (k + 1) ≡ at + 8 * k + 8 = omega arith in
    let e₂ : at + 8 * (k + 2) ≡ at + 8 * k + 16 = omega arith in
    let one : (m : ℕ) → m < n → get_or (numbers n (drop at s)) m nan ≡ number (drop (at + 8 * m) s) = λ m l. numbers_at n (drop at s) m nan l ∙ ap number (drop-drop (8 * m) at s) in
    λ i. place (one k (omega arith) i) ((one (k + 1) (omega arith) ∙ ap (λ (m : ℕ). number (drop m s)) e₁) i) ((one (k + 2) (omega arith) ∙ ap (λ (m : ℕ). number (drop m s)) e₂) i)

-- the first three
pub first_place : (s : List ℕ) (at : ℕ) → place_at (numbers 3 (drop at s)) 0 ≡ place (number (drop at s)) (number (drop (at + 8) s)) (number (drop (at + 16) s))
first_place s at =
    let e : at + 8 * 0 ≡ at = omega arith in
    place_of_numbers 3 s at 0 (omega arith) ∙ ap (λ (m : ℕ). place (number (drop m s)) (number (drop (m + 8) s)) (number (drop (m + 16) s))) e

-- three of the plane's nine are those that stand there
pub place_among : (s : List ℕ) (k at : ℕ) → k + 2 < 9 → 8 + 8 * k ≡ at → place_at (numbers 3 (drop at s)) 0 ≡ place_at (numbers 9 (drop 8 s)) k
place_among s k at h e =
    first_place s at
    ∙ ap (λ (m : ℕ). place (number (drop m s)) (number (drop (m + 8) s)) (number (drop (m + 16) s))) (sym e)
    ∙ sym (place_of_numbers 9 s 8 k h)

-- ---- the stand-in on the axes

pub on_plane_lem : (plane : List Float) (p : Point) → on_axes_of (axes_of plane) p ≡ on_plane plane p
unfolding on_axes_of axes_of on_plane
on_plane_lem plane p = refl

pub images_on_plane : (plane : List Float) (rings : List (List Point)) → map (map (image_of (axes_of plane))) rings ≡ plane_images_of plane rings
unfolding image_of on_axes_of axes_of on_plane plane_images_of
images_on_plane plane rings = refl
