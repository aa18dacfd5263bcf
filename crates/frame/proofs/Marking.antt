-- Check 13 on rings whose points are marked, each ring's marks behind those of the rings before it: a ring at a time, and
-- with the marks that a sheet's rings have.
use mathlib.Core.List.{List, [], ◌∷◌, map, flat_map}
use mathlib.Core.Path.{◌≡◌, refl, sym, ◌∙◌}
use mathlib.Core.Bool.{Bool, true, false}
use lib.ListN.{length, take, drop}
use lib.Seq.{take_at, drop_at}
use Rattle.sheet.specs.Content.{Point, Coedge}
use Rattle.points.specs.Joins.{opens, ring_open}
use Rattle.points.proofs.Marks.{length_opens}
use Rattle.frame.specs.Framing.{any_open}
use Rattle.frame.specs.Stages.{open_marked}
use Rattle.frame.specs.declared.framing.Frame.{Frame}
use Rattle.frame.proofs.Counting.{own_points}

module _ (f : Frame) where
  module _ (marks : List Bool) {own : List Bool} {ring : List Point} {rings rest : List (List Point)} (next : rings ≡ ring ∷ rest) (cut : own ≡ take (length ring) marks) where
    pub open_found : ring_open f.periodic f.scale.u f.scale.v own ring ≡ true → open_marked f marks rings ≡ true
    unfolding open_marked
    open_found h = rw (next, ← cut, h) refl

    pub open_passed : {behind : List Bool} → ring_open f.periodic f.scale.u f.scale.v own ring ≡ false → behind ≡ drop (length ring) marks → open_marked f marks rings ≡ open_marked f behind rest
    unfolding open_marked
    open_passed h back = rw (next, ← cut, h, back) refl

  pub open_none : (marks : List Bool) {rings : List (List Point)} → rings ≡ [] → open_marked f marks rings ≡ false
  unfolding open_marked
  open_none marks none = rw none refl

  -- the marks are those of the rings whose points these are
  pub marked_open : (points : List Coedge → List Point) → ((r : List Coedge) → length (points r) ≡ own_points r) → (rings : List (List Coedge)) → open_marked f (flat_map opens rings) (map points rings) ≡ any_open f opens points rings
  unfolding open_marked any_open flat_map
  marked_open points same [] = refl
  marked_open points same (r ∷ rs) =
      let e : length (points r) ≡ length (opens r) = same r ∙ sym (length_opens r) in
      rw (e, take_at (opens r) (flat_map opens rs) (length (opens r)) refl, drop_at (opens r) (flat_map opens rs) (length (opens r)) refl, marked_open points same rs)
