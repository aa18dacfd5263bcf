-- The rings of a sheet's content in another order: every check, the frame and the chosen candidate stay the same, bit
-- for bit, where no coordinate is -0. So do a call's status and numbers; the list that the
-- chart writes goes with the order.
use mathlib.Core.Path.{◌≡◌, refl, sym, ap, ap₂, ◌∙◌, fun_ext}
use mathlib.Core.Bool.{Bool, true, false, cond, ◌&&◌, ◌||◌}
use mathlib.Core.List.{List, [], ◌∷◌, ◌++◌, map, flatten, Permᴰ}
use Prim.Native.Nat.{ℕ, ◌*◌}
use lib.Dec.{eqb, ltb}
use lib.ListN.{length}
use lib.Ieee.{inf, binary64, sub}
use lib.Ieee.Fits.{inf-fits}
use Rattle.leaves.proofs.Choices.{Clear}
use Rattle.leaves.proofs.Folds.{All, least_perm, greatest_perm, sum_perm}
use Rattle.sheet.specs.Content.{Point, Coedge, Sheet, ring_points}
use Rattle.answers.specs.Lists.{any_of}
use Rattle.answers.specs.Outcome.{check}
use Rattle.sheet.specs.Checks.{empty, coedge_total, coedges_wrong, ring_wrong, plane_wrong, numbers_wrong, content_checks}
use Rattle.sheet.proofs.Reading.{ClearPoint}
use Rattle.sheet.proofs.BlockOrder.{with_rings}
use Rattle.points.specs.Bounds.{least, greatest, axis_of, goes_around}
use Rattle.points.specs.Unroll.{moved_ring}
use Rattle.points.specs.Joins.{opens, ring_open}
use Rattle.points.specs.Normalise.{normal}
use Rattle.points.proofs.Moved.{moved_clear}
use Rattle.frame.specs.Frame.{band_of, periodic_of, spread, framed, frame_of, band_wide, narrow, boxed}
use Rattle.points.specs.Grid.{grid_point}
use Rattle.search.specs.Search.{search}
use Rattle.chart.specs.Chart.{candidate, normalised_by, normalised, chosen, answered, room_wrong, none_clear, frame_checks}
use Rattle.frame.specs.Framing.{moved_rings, frame, joins_open, point_count, phase_wrong}
use Rattle.frame.specs.declared.framing.Frame.{Frame}
use Rattle.search.specs.declared.candidate.Candidate.{Candidate}
use Rattle.answers.proofs.Permutations.{map_perm, flatten_perm, any_of_perm, all_map, all_weaken, all_flatten}
use Rattle.chart.proofs.Crossings.{covered_perm}
use Rattle.chart.proofs.Clearances.{clearance_perm}
use Rattle.chart.proofs.Outcomes.{later_checks}

-- ---- the frame

axis_clear : (axis : ℕ) (p : Point) → ClearPoint p → Clear binary64 (axis_of axis p)
unfolding axis_of
axis_clear axis p c = by (eqb axis 0)
  where
    by : (b : Bool) → Clear binary64 (cond b p.u p.v)
    by true = c.0
    by false = c.1

module _ {ps qs : List Point} (d : Permᴰ ps qs) (clear : All ClearPoint ps) where
  numbers_clear : (axis : ℕ) → All (Clear binary64) (map (axis_of axis) ps)
  numbers_clear axis = all_map (Clear binary64) (axis_of axis) ps (all_weaken ClearPoint (λ (p : Point). Clear binary64 (axis_of axis p)) (axis_clear axis) ps clear)

  least_same : (axis : ℕ) → least (map (axis_of axis) ps) ≡ least (map (axis_of axis) qs)
  unfolding least
  least_same axis = least_perm binary64 (map_perm (axis_of axis) d) (numbers_clear axis) (inf false) (inf-fits binary64 false)

  greatest_same : (axis : ℕ) → greatest (map (axis_of axis) ps) ≡ greatest (map (axis_of axis) qs)
  unfolding greatest
  greatest_same axis = greatest_perm binary64 (map_perm (axis_of axis) d) (numbers_clear axis) (inf true) (inf-fits binary64 true)

  spread_same : (axis : ℕ) → spread axis ps ≡ spread axis qs
  unfolding spread
  spread_same axis = ap₂ (sub binary64) (greatest_same axis) (least_same axis)

  framed_same : (periodic band : Bool) → framed periodic band ps ≡ framed periodic band qs
  unfolding framed
  framed_same periodic band = λ i. boxed periodic band (least_same 0 i) (least_same 1 i) (spread_same 0 i) (spread_same 1 i)

module _ (kind : ℕ) {rings rings' : List (List Point)} (d : Permᴰ rings rings') (clear : All (All ClearPoint) rings) where
  band_same : band_of kind rings ≡ band_of kind rings'
  unfolding band_of
  band_same = ap (λ (b : Bool). eqb kind 4 && b) (any_of_perm goes_around d)

  frame_same : frame_of kind rings ≡ frame_of kind rings'
  unfolding frame_of
  frame_same =
      framed_same (flatten_perm d) (all_flatten ClearPoint rings clear) (periodic_of kind (band_of kind rings)) (band_of kind rings)
      ∙ ap (λ (b : Bool). framed (periodic_of kind b) b (flatten rings')) band_same

-- ---- the candidate

candidate_perm : (f : Frame) (sense : ℕ) {rings rings' : List (List Point)} → Permᴰ rings rings' → candidate f sense rings ≡ candidate f sense rings'
unfolding candidate
candidate_perm f sense d =
    ap₂ search (fun_ext (λ i. fun_ext (λ j. covered_perm f sense (grid_point i j) d))) (fun_ext (λ i. fun_ext (λ j. clearance_perm f (grid_point i j) d)))

-- ---- what a sheet's joins and candidate are, in its frame

abbrev opens_in : Frame → ℕ → ℕ → List Coedge → Bool
opens_in f kind phase r = ring_open f.periodic f.scale.u f.scale.v (opens r) (moved_ring kind phase (ring_points r))

joins_in : (s : Sheet) (phase : ℕ) → joins_open s phase ≡ any_of (opens_in (frame s phase) s.kind phase) s.rings
unfolding joins_open
joins_in s phase = refl

pub chosen_in : (s : Sheet) (phase : ℕ) → chosen s phase ≡ candidate (frame s phase) s.sense (normalised_by (frame s phase) (moved_rings s phase))
unfolding chosen normalised
chosen_in s phase = refl

normal_perm : (f : Frame) {rings rings' : List (List Point)} → Permᴰ rings rings' → Permᴰ (normalised_by f rings) (normalised_by f rings')
unfolding normalised_by
normal_perm f d = map_perm (map (normal f.least.u f.least.v f.scale.u f.scale.v)) d

-- ---- a sheet

module _ (s : Sheet) (rings : List (List Coedge)) (d : Permᴰ s.rings rings) where
  pub same_coedges : coedges_wrong s.rings ≡ coedges_wrong rings
  unfolding coedges_wrong coedge_total
  same_coedges = ap₂ (λ (a : Bool) (n : ℕ). a || ltb 128 n) (any_of_perm empty d) (sum_perm (λ (r : List Coedge). length r) d 0)

  pub same_numbers : numbers_wrong s ≡ numbers_wrong (with_rings s rings)
  unfolding numbers_wrong
  same_numbers = ap (λ (b : Bool). plane_wrong s.plane || b) (any_of_perm ring_wrong d)

  pub same_content : content_checks s ≡ content_checks (with_rings s rings)
  unfolding content_checks
  same_content = λ i. check 6 (same_coedges i) ∷ check 7 (same_numbers i) ∷ []

  pub same_phase : (phase : ℕ) → phase_wrong s phase ≡ phase_wrong (with_rings s rings) phase
  unfolding phase_wrong
  same_phase phase = refl

  pub same_count : point_count s ≡ point_count (with_rings s rings)
  unfolding point_count
  same_count = sum_perm (λ (r : List Coedge). length (ring_points r)) d 0

  pub moved_perm : (phase : ℕ) → Permᴰ (moved_rings s phase) (moved_rings (with_rings s rings) phase)
  unfolding moved_rings
  moved_perm phase = map_perm (λ (r : List Coedge). moved_ring s.kind phase (ring_points r)) d

  module _ (phase : ℕ) (clear : All (λ (r : List Coedge). All ClearPoint (ring_points r)) s.rings) where
    all_moved : All (All ClearPoint) (moved_rings s phase)
    unfolding moved_rings
    all_moved =
        all_map (All ClearPoint) (λ (r : List Coedge). moved_ring s.kind phase (ring_points r)) s.rings
        (all_weaken (λ (r : List Coedge). All ClearPoint (ring_points r)) (λ (r : List Coedge). All ClearPoint (moved_ring s.kind phase (ring_points r))) (λ r c. moved_clear s.kind phase (ring_points r) c) s.rings clear)

    pub same_frame : frame s phase ≡ frame (with_rings s rings) phase
    unfolding frame
    same_frame = frame_same s.kind (moved_perm phase) all_moved

    pub same_joins : joins_open s phase ≡ joins_open (with_rings s rings) phase
    same_joins =
        joins_in s phase
        ∙ ap (λ (f : Frame). any_of (opens_in f s.kind phase) s.rings) same_frame
        ∙ any_of_perm (opens_in (frame (with_rings s rings) phase) s.kind phase) d
        ∙ sym (joins_in (with_rings s rings) phase)

    pub same_chosen : chosen s phase ≡ chosen (with_rings s rings) phase
    same_chosen =
        chosen_in s phase
        ∙ ap (λ (f : Frame). candidate f s.sense (normalised_by f (moved_rings s phase))) same_frame
        ∙ candidate_perm (frame (with_rings s rings) phase) s.sense (normal_perm (frame (with_rings s rings) phase) (moved_perm phase))
        ∙ sym (chosen_in (with_rings s rings) phase)

    pub same_frame_checks : frame_checks s phase ≡ frame_checks (with_rings s rings) phase
    unfolding frame_checks
    same_frame_checks = λ i. check 11 (band_wide (same_frame i)) ∷ check 12 (narrow (same_frame i)) ∷ check 13 (same_joins i) ∷ check 14 (none_clear (same_chosen i)) ∷ []

    pub same_later : (room : ℕ) → later_checks s phase room ≡ later_checks (with_rings s rings) phase room
    unfolding later_checks room_wrong
    same_later room = λ i. same_content i ++ check 8 (same_phase phase i) ∷ check 9 (ltb room (2 * same_count i)) ∷ same_frame_checks i

    pub same_answer : answered (frame s phase) phase (chosen s phase) ≡ answered (frame (with_rings s rings) phase) phase (chosen (with_rings s rings) phase)
    same_answer = ap₂ (λ (f : Frame) (c : Candidate). answered f phase c) same_frame same_chosen
