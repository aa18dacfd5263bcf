-- Rule 8's least over the rings, by keys, is the least over the segments of all rings in one list: each segment laid
-- with its moved end, and moved on by the offset of the point's column, is the rule's copy of it.
use mathlib.Core.Path.{◌≡◌, refl, sym, ap, ◌∙◌}
use mathlib.Core.List.{List, [], ◌∷◌, ◌++◌, map, foldl, flat_map, foldl-map, foldl-append, map-append}
use lib.Ieee.{Float}
use Rattle.std.proofs.Common.{Option, Some, None}
use Rattle.leaves.specs.Bounds.{smaller_of}
use Rattle.sheet.specs.Content.{Point}
use Rattle.clearance.specs.Clearance.{laid, shifted_to, copy, least_of}
use Rattle.points.specs.Segments.{Segment, segments}
use Rattle.clearance.specs.Nearest.{key_to, least_key}
use Rattle.clearance.specs.SegmentLists.{laid_rings, copies_at}
use Rattle.clearance.proofs.ByKeys.{copy_key}

module _ (p : Point) where
  -- ---- one ring

  ring_by_list : (period : Option Float) (k : Float) (ss : List Segment) → foldl (λ (d : Float) (s : Segment). smaller_of d (copy_key period p s)) k ss ≡ least_key p k (copies_at period p.u (map (laid period) ss))
  unfolding least_key copies_at copy laid
  ring_by_list (Some period) k ss =
      sym (foldl-map (laid (Some period)) (λ (d : Float) (s : Segment). smaller_of d (key_to p (shifted_to period p.u s))) ss k)
      ∙ sym (foldl-map (shifted_to period p.u) (λ (d : Float) (s : Segment). smaller_of d (key_to p s)) (map (laid (Some period)) ss) k)
  ring_by_list None k ss = sym (foldl-map (laid None) (λ (d : Float) (s : Segment). smaller_of d (key_to p s)) ss k)

  -- ---- two lists, one behind the other

  copies_append : (period : Option Float) (u : Float) (ss ts : List Segment) → copies_at period u (ss ++ ts) ≡ copies_at period u ss ++ copies_at period u ts
  unfolding copies_at
  copies_append (Some period) u ss ts = map-append (shifted_to period u) ss ts
  copies_append None u ss ts = refl

  least_append : (k : Float) (ss ts : List Segment) → least_key p k (ss ++ ts) ≡ least_key p (least_key p k ss) ts
  unfolding least_key
  least_append k ss ts = foldl-append (λ (d : Float) (s : Segment). smaller_of d (key_to p s)) k ss ts

  -- ---- all rings

  pub nearest_by_list : (period : Option Float) (k : Float) (rings : List (List Point)) → foldl (least_of (copy_key period p)) k rings ≡ least_key p k (copies_at period p.u (laid_rings period rings))
  unfolding laid_rings flat_map least_of
  nearest_by_list (Some period) k [] = unfold least_key copies_at in refl
  nearest_by_list None k [] = unfold least_key copies_at in refl
  nearest_by_list period k (ring ∷ rings) =
      let at = copies_at period p.u in
      let first = map (laid period) (segments ring) in
      let rest = laid_rings period rings in
      nearest_by_list period (least_of (copy_key period p) k ring) rings
      ∙ ap (λ (l : Float). least_key p l (at rest)) (ring_by_list period k (segments ring))
      ∙ sym (least_append k (at first) (at rest))
      ∙ ap (least_key p k) (sym (copies_append period p.u first rest))
