-- Rings that stand one behind the other in one list of points, normalised into a list of the same length: they are the
-- normalised rings, end where they did, and have nothing between them.
use mathlib.Core.List.{List, map, flatten}
use mathlib.Core.Path.{◌≡◌, sym, ap, ◌∙◌}
use Prim.Native.Nat.{ℕ}
use lib.ListN.{length, length-map}
use Rattle.sheet.specs.Content.{Point}
use Rattle.answers.specs.Lists.{over}
use Rattle.answers.proofs.Over.{over_all}
use Rattle.points.specs.Normalise.{normal as normal_of}
use Rattle.frame.specs.Parts.{ends_from, rings_from, Packed}
use Rattle.frame.specs.declared.framing.Frame.{Frame}
use Rattle.frame.proofs.Parting.{rings_changed, flatten_map, ends_map}
use Rattle.chart.specs.Chart.{normalised_by}

abbrev change : Frame → Point → Point
change f = normal_of f.least.u f.least.v f.scale.u f.scale.v

module _ (f : Frame) {ends : List ℕ} {points normal : List Point} (before : List Point) (p : Packed ends points) (same : length points ≡ length before) (n : normal ≡ over (map (change f) points) before) where
  normal_is : normal ≡ map (change f) points
  normal_is = n ∙ over_all (map (change f) points) before (sym (length-map points (change f) ∙ same))

  pub normal_rings : rings_from 0 ends normal ≡ normalised_by f (rings_from 0 ends points)
  unfolding normalised_by
  normal_rings = ap (rings_from 0 ends) normal_is ∙ rings_changed (change f) p

  pub normal_packed : Packed ends normal
  unfolding normalised_by
  normal_packed =
      let rings = rings_from 0 ends points in
      record {
        points_are = normal_is ∙ ap (map (change f)) p.points_are ∙ flatten_map (change f) rings ∙ ap flatten (sym normal_rings);
        ends_are = p.ends_are ∙ sym (ends_map (change f) rings 0) ∙ ap (ends_from 0) (sym normal_rings);
      }

  pub normal_length : length normal ≡ length points
  normal_length = ap length normal_is ∙ length-map points (change f)

  pub normal_count : length (flatten (rings_from 0 ends normal)) ≡ length points
  normal_count = ap length (sym normal_packed.points_are) ∙ normal_length
