-- From the rings to what the search takes: the segments of all rings, laid one ring behind the other in one list, and a
-- mark for each covered grid point; and that the search from both chooses the candidate.
use mathlib.Core.Path.{◌≡◌, refl, sym, ap, ap₂, fun_ext, ◌∙◌}
use mathlib.Core.Bool.{Bool, false}
use mathlib.Core.List.{List, [], ◌∷◌, ◌++◌, map, flatten, flat_map, append-nil, append_assoc, foldl}
use Prim.Native.Nat.{ℕ, ◌+◌, ◌-◌, ◌≤◌}
use native.Mathlib.Omega.{arith}
use lib.Ieee.{Float, inf}
use lib.ListN.{length, take, drop, length-append, length-map, length-take, length-drop}
use lib.Seq.{length-take-le, take_at, take_all}
use Rattle.leaves.specs.Hypot.{hypot_of_key}
use Rattle.leaves.proofs.Hypotenuses.{inf_key, hypot_of_inf}
use Rattle.sheet.specs.Content.{Point}
use Rattle.std.specs.Prelude.{Option}
use Rattle.answers.specs.Lists.{over}
use Rattle.answers.proofs.Over.{over_all}
use Rattle.coverage.specs.Coverage.{covered}
use Rattle.clearance.specs.Clearance.{nearer, least_of, laid}
use Rattle.points.specs.Grid.{grid_point, grid_of}
use Rattle.points.specs.Segments.{Segment, segments}
use Rattle.points.proofs.RingFolds.{segments_count}
use Rattle.points.proofs.GridOrder.{grid_length, grid_place}
use Rattle.clearance.proofs.ByKeys.{copy_key, nearer_by_key}
use Rattle.search.specs.Chosen.{covered_at, clearance_at, chosen_among}
use Rattle.search.specs.Search.{search}
use Rattle.clearance.specs.SegmentLists.{laid_rings}
use Rattle.clearance.proofs.ByList.{nearest_by_list}
use Rattle.search.proofs.Visits.{search_same}
use Rattle.chart.specs.Chart.{clearance, candidate, period_of}
use Rattle.frame.specs.Parts.{rings_from}
use Rattle.frame.specs.declared.framing.Frame.{Frame}

-- ---- the segments of all rings

-- room for the points of all rings that are left is room for the next ring's, and behind it for the rest's
pub room_more : {rings rest : List (List Point)} {ring : List Point} (at size : ℕ) → rings ≡ ring ∷ rest → at + length (flatten rings) ≤ size → at + length ring + length (flatten rest) ≤ size
unfolding flatten
room_more {rest = rest} {ring = ring} at size e h = omega (arith, length-append ring (flatten rest), ap (λ (rs : List (List Point)). length (flatten rs)) e, h)

-- a part of the list laid anew leaves it as long
pub length_laid : (list ys : List Segment) (at n : ℕ) → length ys ≡ length (take (at + n - at) (drop at list)) → at + n ≤ length list → length (take at list ++ (ys ++ drop (at + n - at) (drop at list))) ≡ length list
length_laid list ys at n e h =
    let front : length (take at list) ≡ at = length-take-le at list (omega arith) in
    let part : length ys ≡ n = e ∙ simp (length-take, length-drop) (omega arith) in
    simp (length-append, length-drop) (omega (arith, front, part))

module _ (period : Option Float) where
  laid_more : (ring : List Point) (rings : List (List Point)) → laid_rings period (ring ∷ rings) ≡ map (laid period) (segments ring) ++ laid_rings period rings
  unfolding laid_rings flat_map
  laid_more ring rings = refl

  laid_none : laid_rings period [] ≡ []
  unfolding laid_rings flat_map
  laid_none = refl

  -- the next ring's segments, laid into a part of just their length
  part_laid : (list ys : List Segment) (at n : ℕ) (xs rest whole : List Segment) → at + n ≤ length list → length xs ≡ n → ys ≡ xs → take at list ++ (xs ++ rest) ≡ whole
      → take (at + n) (take at list ++ (ys ++ drop (at + n - at) (drop at list))) ++ rest ≡ whole
  part_laid list ys at n xs rest whole room size e w =
      let tail = drop (at + n - at) (drop at list) in
      let front : length (take at list ++ ys) ≡ at + n = length-append (take at list) ys ∙ ap₂ ◌+◌ (length-take-le at list (omega arith)) (ap length e ∙ size) in
      ap (λ (l : List Segment). take (at + n) l ++ rest) (sym (append_assoc (take at list) ys tail))
      ∙ ap (λ (l : List Segment). l ++ rest) (take_at (take at list ++ ys) tail (at + n) front)
      ∙ append_assoc (take at list) ys rest
      ∙ ap (λ (l : List Segment). take at list ++ (l ++ rest)) e
      ∙ w

  module _ (whole list ys : List Segment) (at : ℕ) where
    -- the front of the list, and the segments of the rings that are left
    abbrev pub Laid : List (List Point) → Type 0
    Laid rings = take at list ++ laid_rings period rings ≡ whole

    pub ring_laid : {rings rest : List (List Point)} {ring : List Point} → rings ≡ ring ∷ rest → at + length ring ≤ length list
        → ys ≡ over (map (laid period) (segments ring)) (take (at + length ring - at) (drop at list)) → Laid rings
        → take (at + length ring) (take at list ++ (ys ++ drop (at + length ring - at) (drop at list))) ++ laid_rings period rest ≡ whole
    ring_laid {rest = rest} {ring = ring} is room e w =
        let n = length ring in
        let xs = map (laid period) (segments ring) in
        let size : length xs ≡ n = length-map (segments ring) (laid period) ∙ segments_count ring in
        let fits : length xs ≡ length (take (at + n - at) (drop at list)) = size ∙ sym (simp (length-take, length-drop) (omega arith)) in
        part_laid list ys at n xs (laid_rings period rest) whole room size (e ∙ over_all xs (take (at + n - at) (drop at list)) (sym fits))
        (ap (λ (ss : List Segment). take at list ++ ss) (sym (ap (laid_rings period) is ∙ laid_more ring rest)) ∙ w)

    pub all_laid : {rings : List (List Point)} → rings ≡ [] → Laid rings → take at list ≡ whole
    all_laid e w = sym (append-nil (take at list)) ∙ ap (λ (ss : List Segment). take at list ++ ss) (sym (ap (laid_rings period) e ∙ laid_none)) ∙ w

-- ---- the marks

-- of all rings, a mark for each grid point
abbrev pub marks : Frame → ℕ → List (List Point) → List Bool
marks f sense rings = grid_of (λ (i j : ℕ). covered f sense rings (grid_point i j))

-- over just so many cells
pub marked : (f : Frame) (sense : ℕ) (ends : List ℕ) (points : List Point) (old new : List Bool) → length ends ≤ 256 → length points ≤ 2176 → length old ≡ 961
    → new ≡ over (marks f sense (rings_from 0 (take 256 ends) (take 2176 points))) old → new ≡ marks f sense (rings_from 0 ends points)
marked f sense ends points old new few short size e =
    let rings = rings_from 0 (take 256 ends) (take 2176 points) in
    e
    ∙ over_all (marks f sense rings) old (size ∙ sym (grid_length (λ (i j : ℕ). covered f sense rings (grid_point i j))))
    ∙ ap₂ (λ (es : List ℕ) (ps : List Point). marks f sense (rings_from 0 es ps)) (take_all 256 ends few) (take_all 2176 points short)

-- ---- the candidate

module _ (f : Frame) (sense : ℕ) (rings : List (List Point)) where
  clearance_by_key : (p : Point) → clearance f rings p ≡ hypot_of_key (foldl (least_of (copy_key (period_of f) p)) (inf false) rings)
  unfolding clearance
  clearance_by_key p = ap (λ (d : Float). foldl (nearer (period_of f) p) d rings) (sym hypot_of_inf) ∙ nearer_by_key (period_of f) p (inf false) rings inf_key

  clear_is : (i j : ℕ) → clearance_at (period_of f) (laid_rings (period_of f) rings) i j ≡ clearance f rings (grid_point i j)
  unfolding clearance_at grid_point
  clear_is i j = sym (clearance_by_key (grid_point i j) ∙ ap hypot_of_key (nearest_by_list (grid_point i j) (period_of f) (inf false) rings))

  cover_is : (i j : ℕ) → 1 ≤ i → i ≤ 31 → 1 ≤ j → j ≤ 31 → covered_at (marks f sense rings) i j ≡ covered f sense rings (grid_point i j)
  unfolding covered_at
  cover_is i j h k l m = grid_place (λ (i j : ℕ). covered f sense rings (grid_point i j)) false i j h k l m

  pub chosen_is : chosen_among (period_of f) (laid_rings (period_of f) rings) (marks f sense rings) ≡ candidate f sense rings
  unfolding chosen_among candidate
  chosen_is =
      ap (search (covered_at (marks f sense rings))) (fun_ext (λ i. fun_ext (λ j. clear_is i j)))
      ∙ search_same (covered_at (marks f sense rings)) (λ (i j : ℕ). covered f sense rings (grid_point i j)) (λ (i j : ℕ). clearance f rings (grid_point i j)) cover_is

  -- from a list that has the segments in its front, and the marks of all rings
  pub chosen_from : (list : List Segment) (n m : ℕ) (new : List Bool) → n ≤ m → take n list ≡ laid_rings (period_of f) rings → new ≡ marks f sense rings
      → chosen_among (period_of f) (take m (take n list)) new ≡ candidate f sense rings
  chosen_from list n m new h Laid-in marks_are =
      let short : take m (take n list) ≡ take n list = take_all m (take n list) (omega (arith, length-take n list)) in
      ap₂ (chosen_among (period_of f)) (short ∙ Laid-in) marks_are ∙ chosen_is
