-- The least distance by keys. Where a segment's distance is the hypotenuse of its key, the least distance to a ring, or
-- to a list of rings, is the hypotenuse of the least key,
-- since keys order as hypotenuses do. Such a distance is never -0. In the chart the key is the residual's.
use mathlib.Core.Path.{◌≡◌, refl, sym, ap, ◌∙◌, fun_ext}
use Rattle.std.proofs.Common.{Option}
use mathlib.Core.List.{List, [], ◌∷◌, foldl, map, foldl-map}
use lib.Ieee.{Float, binary64}
use Rattle.leaves.specs.Bounds.{smaller_of}
use Rattle.leaves.specs.Hypot.{hypot_of_key}
use Rattle.leaves.proofs.Choices.{Clear}
use Rattle.leaves.proofs.Folds.{All, all_of, fold_keeps}
use Rattle.leaves.specs.Keys.{Key}
use Rattle.leaves.proofs.Hypotenuses.{key_is, smaller_key, least_hypot, hypot_by_key, hypot_clear}
use Rattle.sheet.specs.Content.{Point}
use Rattle.answers.proofs.Permutations.{all_map}
use Rattle.points.specs.Segments.{Between, Segment, segments}
use Rattle.clearance.specs.Clearance.{residual, copy, distance, least_of, nearer}
use Rattle.clearance.specs.Nearest.{key_to}
use Rattle.clearance.proofs.LeastDistance.{least_step}

module _ {A : Type 0} (key : Between A → Float) (keyed : (s : Between A) → Key (key s)) where
  -- ---- one ring

  all_keyed : (ss : List (Between A)) → All (λ (s : Between A). Key (key s)) ss
  all_keyed = all_of (λ (s : Between A). Key (key s)) keyed

  pub least_key_lem : (k : Float) (ring : List A) → Key k → Key (least_of key k ring)
  unfolding least_of
  least_key_lem k ring h =
      fold_keeps (least_step key) Key (λ (s : Between A). Key (key s)) (λ l s p q. smaller_key l (key s) p q) (segments ring) (all_keyed (segments ring)) k h

  pub least_by_key : (k : Float) (ring : List A) → Key k → least_of (λ (s : Between A). hypot_of_key (key s)) (hypot_of_key k) ring ≡ hypot_of_key (least_of key k ring)
  unfolding least_of
  least_by_key k ring h =
      let ss = segments ring in
      sym (foldl-map key (λ (d l : Float). smaller_of d (hypot_of_key l)) ss (hypot_of_key k))
      ∙ least_hypot (map key ss) (all_map Key key ss (all_keyed ss)) k h
      ∙ ap hypot_of_key (foldl-map key smaller_of ss k)

  -- ---- many rings

  pub nearest_by_key : (k : Float) (rings : List (List A)) → Key k
      → foldl (least_of (λ (s : Between A). hypot_of_key (key s))) (hypot_of_key k) rings ≡ hypot_of_key (foldl (least_of key) k rings)
  nearest_by_key k [] h = refl
  nearest_by_key k (ring ∷ rings) h =
      ap (λ (d : Float). foldl (least_of (λ (s : Between A). hypot_of_key (key s))) d rings) (least_by_key k ring h) ∙ nearest_by_key (least_of key k ring) rings (least_key_lem k ring h)

-- ---- in the chart

module _ (period : Option Float) (p : Point) where
  -- the key of the distance to a segment's copy
  abbrev pub copy_key : Segment → Float
  copy_key s = key_to p (copy period p s)

  copy_key_lem : (s : Segment) → Key (copy_key s)
  unfolding key_to
  copy_key_lem s = key_is (residual p (copy period p s)).u (residual p (copy period p s)).v

  distance_by_key : distance period p ≡ (λ (s : Segment). hypot_of_key (copy_key s))
  unfolding distance key_to
  distance_by_key = fun_ext (λ s. hypot_by_key (residual p (copy period p s)).u (residual p (copy period p s)).v)

  pub distance_clear : (s : Segment) → Clear binary64 (distance period p s)
  unfolding distance
  distance_clear s = hypot_clear (residual p (copy period p s)).u (residual p (copy period p s)).v

  pub nearer_by_key : (k : Float) (rings : List (List Point)) → Key k
      → foldl (nearer period p) (hypot_of_key k) rings ≡ hypot_of_key (foldl (least_of copy_key) k rings)
  unfolding nearer
  nearer_by_key k rings h =
      ap (λ (d : Segment → Float). foldl (least_of d) (hypot_of_key k) rings) distance_by_key ∙ nearest_by_key copy_key copy_key_lem k rings h
