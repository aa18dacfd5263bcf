-- The physical clearance against a limit: it is not above the limit where the distance to one of the segments is not,
-- told one segment after the other, and once one is near the rest change nothing. A limit that is not below infinity it
-- is never above. No distance is -0, so the clearance is the same for every order of the rings.
use mathlib.Core.Path.{◌≡◌, refl, sym, ap, ◌∙◌}
use mathlib.Core.Bool.{Bool, true, false, not, ◌||◌}
use mathlib.Core.List.{List, [], ◌∷◌, map, foldl, Permᴰ}
use Rattle.std.proofs.Common.{Option, Some, None}
use Rattle.std.specs.Iterator.{AlwaysYields}
use Rattle.std.specs.List.{list_any}
use lib.Dec.{T}
use lib.Ieee.{Float, inf, binary64, fits, is_nan, lt}
use lib.Ieee.Fits.{inf-fits}
use Rattle.leaves.proofs.Choices.{Clear, smaller_keeps, smaller_number}
use Rattle.leaves.proofs.Folds.{fold_seen, fold_stays}
use Rattle.leaves.proofs.Hypotenuses.{hypot3_clear}
use Rattle.leaves.proofs.Limits.{least_limit}
use Rattle.space.specs.declared.vectors.Place.{Place}
use Rattle.clearance.specs.Clearance.{least_of}
use Rattle.points.specs.Segments.{Between, between, segments_from, segments}
use Rattle.points.proofs.RingFolds.{fold_rest, rest_none, rest_start, rest_step, rest_end}
use Rattle.clearance.proofs.LeastDistance.{least_step, least_fold, least_held, least_number, rings_perm}
use Rattle.physical.specs.Space.{residual, distance, physical_clearance}
use Rattle.physical.specs.Stages.{is_near, any_near}

-- ---- the order of the rings

pub distance_clear : (p : Place) (s : Between Place) → Clear binary64 (distance p s)
unfolding distance
distance_clear p s = hypot3_clear (residual p s).x (residual p s).y (residual p s).z

pub physical_perm : (p : Place) {rings rings' : List (List Place)} → Permᴰ rings rings' → physical_clearance p rings ≡ physical_clearance p rings'
unfolding physical_clearance
physical_perm p d = rings_perm (distance p) (distance_clear p) d (inf false) (inf-fits binary64 false)

-- ---- the segments, one after the other

module _ (limit : Float) (p : Place) where
  -- with one segment more
  abbrev near_step : Bool → Between Place → Bool
  near_step b s = b || is_near limit p s

  near_fold : (b : Bool) (ring : List Place) → any_near limit p b ring ≡ foldl near_step b (segments ring)
  unfolding any_near
  near_fold b ring = refl

  near_stays : (ss : List (Between Place)) → foldl near_step true ss ≡ true
  near_stays = fold_stays near_step true (λ s. refl)

-- ---- between the places that an iterator has to give

-- every run of calls from s gives these, and then `None`
abbrev pub GivesPlaces : {S : Type 0} → (S → Option Place → S → Type 0) → S → List Place → Type 0
GivesPlaces steps s ring = AlwaysYields steps (λ q. q) s ring

module _ {S : Type 0} (steps : S → Option Place → S → Type 0) {s t : S} where
  none_left : (ring : List Place) → GivesPlaces steps s ring → steps s None t → ring ≡ []
  none_left [] e h = refl
  none_left (q ∷ rest) e h = absurd (e.0 t h)

  one_left : {b : Place} (ring : List Place) → GivesPlaces steps s ring → steps s (Some b) t → (rest : List Place) × GivesPlaces steps t rest × (ring ≡ b ∷ rest)
  one_left {b} [] e h = absurd (e b t h)
  one_left {b} (q ∷ rest) e h = let (is, more) = e.1 b t h in (rest, more, ap (λ (x : Place). x ∷ rest) (sym is))

-- this is the answer for the ring that s has to give
abbrev pub IsAnswer : {S : Type 0} → Float → Place → (S → Option Place → S → Type 0) → S → Bool → Type 0
IsAnswer limit p steps s near = (ring : List Place) → GivesPlaces steps s ring → near ≡ any_near limit p false ring

-- The answer for the ring that `start` has to give is told by its segments that are left: from the place a through
-- those that s has to give, and back to the first. `near`: whether one before was near.
pub record IsTold {S : Type 0} (limit : Float) (p : Place) (steps : S → Option Place → S → Type 0) (start : S) (first : Place) (near : Bool) (a : Place) (s : S) : Type 0 where
  pub by : (ring : List Place) → GivesPlaces steps start ring → (rest : List Place) × GivesPlaces steps s rest × (fold_rest (near_step limit p) first near a rest ≡ any_near limit p false ring)

module _ (limit : Float) (p : Place) {S : Type 0} (steps : S → Option Place → S → Type 0) (start : S) {t : S} where
  pub near_none : steps start None t → IsAnswer limit p steps start false
  near_none h ring e = sym (near_fold limit p false ring ∙ rest_none (near_step limit p) false (none_left steps ring e h))

  pub near_start : {first : Place} → steps start (Some first) t → IsTold limit p steps start first false first t
  near_start {first} h = record {
    by = λ ring e.
        let (rest, more, is) = one_left steps ring e h in
        (rest, more, rest_start (near_step limit p) first false is ∙ sym (near_fold limit p false ring));
  }

module _ {limit : Float} {p : Place} {S : Type 0} {steps : S → Option Place → S → Type 0} {start : S} {first a : Place} {s : S} where
  -- the next is near or not
  pub near_next : {b : Place} {t : S} {near : Bool} → IsTold limit p steps start first false a s → steps s (Some b) t → near ≡ is_near limit p (between a b) → IsTold limit p steps start first near b t
  near_next l h n = record {
    by = λ ring e.
        let (left, gives, w) = l.by ring e in
        let (rest, more, is) = one_left steps left gives h in
        (rest, more, rw n (sym (rest_step (near_step limit p) first false a is) ∙ w));
  }

  -- one is near
  pub near_found : IsTold limit p steps start first true a s → IsAnswer limit p steps start true
  near_found l ring e =
      let (rest, more, w) = l.by ring e in
      sym (near_stays limit p (segments_from first a rest)) ∙ w

  -- the closing one is left
  pub near_last : {t : S} {near : Bool} → IsTold limit p steps start first false a s → steps s None t → near ≡ is_near limit p (between a first) → IsAnswer limit p steps start near
  near_last l h n ring e =
      let (rest, more, w) = l.by ring e in
      n ∙ sym (rest_end (near_step limit p) first false a (none_left steps rest more h)) ∙ w

-- ---- the rings, one after the other

module _ (limit : Float) (p : Place) where
  -- those left; `near`: whether one before was near
  abbrev pub rings_near : Bool → List (List Place) → Bool
  rings_near near rings = foldl (any_near limit p) near rings

  pub ring_stays : (rings : List (List Place)) → rings_near true rings ≡ true
  ring_stays = fold_stays (any_near limit p) true (λ ring. near_fold limit p true ring ∙ near_stays limit p (segments ring))

  pub ring_next : {rings rest : List (List Place)} {ring : List Place} {near whole : Bool} → rings ≡ ring ∷ rest → near ≡ any_near limit p false ring → rings_near false rings ≡ whole → rings_near near rest ≡ whole
  ring_next e n w = rw n (sym (ap (rings_near false) e) ∙ w)

  pub ring_found : (rest : List (List Place)) {whole : Bool} → rings_near true rest ≡ whole → true ≡ whole
  ring_found rest w = sym (ring_stays rest) ∙ w

  pub ring_none : {rings : List (List Place)} {whole : Bool} → rings ≡ [] → rings_near false rings ≡ whole → false ≡ whole
  ring_none e w = sym (ap (rings_near false) e) ∙ w

  -- told by any of the rings, which come from other things
  pub rings_any : {A : Type 0} (images : A → List Place) (xs : List A) → rings_near false (map images xs) ≡ list_any (λ (x : A). any_near limit p false (images x)) xs
  rings_any {A = A} images [] = refl
  rings_any {A = A} images (x ∷ xs) = by (any_near limit p false (images x)) (rings_any images xs)
    where
      by : (b : Bool) → rings_near false (map images xs) ≡ list_any (λ (y : A). any_near limit p false (images y)) xs → rings_near b (map images xs) ≡ (b || list_any (λ (y : A). any_near limit p false (images y)) xs)
      by true h = ring_stays (map images xs)
      by false h = h

-- ---- the clearance

-- a least so far
abbrev Least : Float → Type 0
Least d = T (fits binary64 d) × T (not (is_nan d))

module _ (limit : Float) (held : T (fits binary64 limit)) (p : Place) where
  abbrev within : Float → Bool
  within d = not (lt limit d)

  step_keeps : (d : Float) (s : Between Place) → Least d → Least (least_step (distance p) d s)
  step_keeps d s h = (smaller_keeps (λ (x : Float). T (fits binary64 x)) d (distance p s) h.0 (distance_clear p s).held, smaller_number d (distance p s) h.1)

  step_within : (d : Float) (s : Between Place) → Least d → within (least_step (distance p) d s) ≡ near_step limit p (within d) s
  unfolding is_near
  step_within d s h = least_limit binary64 limit d (distance p s) held h.0 (distance_clear p s).held h.1

  ring_keeps : (d : Float) (ring : List Place) → Least d → Least (least_of (distance p) d ring)
  ring_keeps d ring h = (least_held (distance p) (distance_clear p) d ring h.0, least_number (distance p) (distance_clear p) d ring h.1)

  ring_within : (d : Float) (ring : List Place) → Least d → within (least_of (distance p) d ring) ≡ any_near limit p (within d) ring
  unfolding any_near
  ring_within d ring h = ap within (least_fold (distance p) d ring) ∙ fold_seen (least_step (distance p)) within (near_step limit p) Least step_keeps step_within (segments ring) d h

  pub clearance_within : (rings : List (List Place)) → not (lt limit (physical_clearance p rings)) ≡ foldl (any_near limit p) (not (lt limit (inf false))) rings
  unfolding physical_clearance is_nan
  clearance_within rings = fold_seen (least_of (distance p)) within (any_near limit p) Least ring_keeps ring_within rings (inf false) (inf-fits binary64 false, tt)
