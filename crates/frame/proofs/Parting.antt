-- Rings that stand one behind the other in one list of points: parted at their ends they are those rings again, and a
-- change of every point changes each ring.
use mathlib.Core.List.{List, [], ◌∷◌, ◌++◌, map, flat_map, flatten, append_assoc, map-append}
use mathlib.Core.Path.{◌≡◌, refl, sym, ap, ap₂, ◌∙◌}
use Prim.Native.Nat.{ℕ, ◌+◌, ◌-◌}
use native.Mathlib.Omega.{arith}
use lib.ListN.{length, take, drop, length-append, length-map}
use lib.Seq.{take_at, drop_at}
use Rattle.sheet.specs.Content.{Point}
use Rattle.frame.specs.Parts.{rings_from, rings_in, ends_from, Packed}
use Rattle.frame.specs.declared.ring_list.Rings.{Rings}

-- ---- parts one behind the other

pub flat_is : {A B : Type 0} (part : B → List A) (bs : List B) → flat_map part bs ≡ flatten (map part bs)
unfolding flat_map flatten
flat_is part [] = refl
flat_is {A = A} part (b ∷ bs) = ap (λ (xs : List A). part b ++ xs) (flat_is part bs)

-- ---- parted at their ends

pub rings_in_is : (rings : Rings) → rings_in rings ≡ rings_from 0 rings.ends.now rings.points.now
unfolding rings_in
rings_in_is rings = refl

pub rings_of_lem : (rings : List (List Point)) (before : List Point) (from : ℕ) → length before ≡ from → rings_from from (ends_from from rings) (before ++ flatten rings) ≡ rings
unfolding rings_from ends_from flatten
rings_of_lem [] before from h = refl
rings_of_lem (ring ∷ rings) before from h =
    let to = from + length ring in
    let size : to - from ≡ length ring = omega arith in
    let first : take (to - from) (drop from (before ++ (ring ++ flatten rings))) ≡ ring = rw (drop_at before (ring ++ flatten rings) from h, size) (take_at ring (flatten rings) (length ring) refl) in
    let next : length (before ++ ring) ≡ to = simp (length-append, h) in
    ap₂ {C = List (List Point)} (λ (r : List Point) (rs : List (List Point)). r ∷ rs) first
    (ap (rings_from to (ends_from to rings)) (sym (append_assoc before ring (flatten rings))) ∙ rings_of_lem rings (before ++ ring) to next)

pub rings_are : (rings : List (List Point)) → rings_from 0 (ends_from 0 rings) (flatten rings) ≡ rings
rings_are rings = rings_of_lem rings [] 0 refl

pub packed : (rings : List (List Point)) → Packed (ends_from 0 rings) (flatten rings)
packed rings = record { points_are = ap flatten (sym (rings_are rings)); ends_are = ap (ends_from 0) (sym (rings_are rings)) }

-- ---- a change of every point

pub flatten_map : (g : Point → Point) (rings : List (List Point)) → map g (flatten rings) ≡ flatten (map (map g) rings)
unfolding flatten
flatten_map g [] = refl
flatten_map g (ring ∷ rings) = map-append g ring (flatten rings) ∙ ap (λ (ps : List Point). map g ring ++ ps) (flatten_map g rings)

pub ends_map : (g : Point → Point) (rings : List (List Point)) (from : ℕ) → ends_from from (map (map g) rings) ≡ ends_from from rings
unfolding ends_from
ends_map g [] from = refl
ends_map g (ring ∷ rings) from = rw (length-map ring g) (ap (λ (es : List ℕ). (from + length ring) ∷ es) (ends_map g rings (from + length ring)))

pub rings_changed : (g : Point → Point) {ends : List ℕ} {points : List Point} → Packed ends points → rings_from 0 ends (map g points) ≡ map (map g) (rings_from 0 ends points)
rings_changed g {ends} {points} p =
    let rings = rings_from 0 ends points in
    ap₂ (rings_from 0) (p.ends_are ∙ sym (ends_map g rings 0)) (ap (map g) p.points_are ∙ flatten_map g rings)
    ∙ rings_are (map (map g) rings)
