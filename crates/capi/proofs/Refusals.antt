-- Demand 1, of the exported calls, by what the host sees of them: the status returned, the result list, the list that
-- the chart is lent.
-- "The whole picker, from sheet reader to last clearance test, finishes on every input with a point or a numbered
-- refusal. No call relies on checks made by its caller. A refusal gives zeros beside its number
-- and leaves each lent list unwritten."
-- The theorems are of every sheet, phase and list, whatever they hold. A shared list (sheet, images) cannot be written.
use mathlib.Core.Path.{◌≡◌, sym, ap, ◌∙◌, subst}
use mathlib.Core.Bool.{Bool, cond}
use mathlib.Core.List.{List, [], ◌∷◌}
use Prim.Native.Nat.{ℕ}
use lib.Ieee.{Float}
use lib.ListN.{length}
use borrow.Author.Tests.{eq-eqb}
use Rattle.answers.specs.Outcome.{Numbers, refused, OneOf}
use Rattle.chart.specs.Chart.{chart_of}
use Rattle.chart.proofs.Refusals.{chart_refused, chart_status_one}
use Rattle.chart.specs.Demand.{chart_statuses}
use Rattle.picker.specs.ImagePick.{image_pick_of}
use Rattle.picker.specs.PlanePick.{plane_pick_of}
use Rattle.picker.proofs.Refusals.{image_pick_refused, image_pick_status_one, plane_pick_refused, plane_pick_status_one}
use Rattle.picker.specs.Demand.{image_statuses, plane_statuses}
use Rattle.round_fallback.specs.Cylinder.{cylinder_point_of}
use Rattle.steps.specs.Direction.{direction_of}
use Rattle.steps.specs.Placed.{placed_of}
use Rattle.steps.specs.Sample.{sample_parameter_of}
use Rattle.vertex_fallback.specs.Vertices.{point_on_of}
use Rattle.steps.proofs.Refusals.{sample_parameter_refused, sample_parameter_status, direction_refused, direction_status, placed_refused, placed_status}
use Rattle.vertex_fallback.proofs.Refusals.{point_on_refused, point_on_status}
use Rattle.round_fallback.proofs.Refusals.{cylinder_refused, cylinder_status}
use Rattle.triangle.specs.Lists.{triangle_lists_of}
use Rattle.triangle.proofs.ListRefusals.{triangle_lists_refused, triangle_lists_status}
use Rattle.capi.specs.Convention.{seen, seen_of, chart_seen, image_pick_returned, plane_pick_returned}
use Rattle.capi.specs.Demand.{Demand1}
use Rattle.answers.specs.Returned.{returned, zeros}
use Rattle.answers.proofs.Returning.{other_length, status_is, zeros_beside}
use Rattle.capi.proofs.Five.{chart_other_length}

-- ---- the chart

module _ (sheet : List ℕ) (phase : ℕ) (points result : List Float) where
  -- a result list of another length gives 1, and leaves everything
  pub chart_call_other_length : (length result ≡ 5 → ⊥) → chart_seen sheet phase points result ≡ seen (returned 1 result) points
  unfolding chart_seen
  chart_call_other_length h = sym (chart_other_length (chart_of sheet phase points) points result h)

  module _ (h : length result ≡ 5) where
    chart_status : (chart_seen sheet phase points result).returns.status ≡ (chart_of sheet phase points).numbers.status
    unfolding chart_seen seen_of
    chart_status = status_is (chart_of sheet phase points).numbers result h

    chart_points : (chart_seen sheet phase points result).points ≡ (chart_of sheet phase points).points
    unfolding chart_seen seen_of
    chart_points = ap (λ (b : Bool). cond b (chart_of sheet phase points).points points) (eq-eqb _ _ h)

    -- a status other than 0 has five zeros beside it, and the list is as at entry
    pub chart_call_refused : ((chart_seen sheet phase points result).returns.status ≡ 0 → ⊥) → ((chart_seen sheet phase points result).returns.result ≡ zeros) × ((chart_seen sheet phase points result).points ≡ points)
    unfolding chart_seen seen_of
    chart_call_refused n =
        let r = chart_refused sheet phase points (λ e. n (chart_status ∙ e)) in
        (zeros_beside (chart_of sheet phase points).numbers result h r.0, chart_points ∙ r.1)

    -- a number of the table, or 0 for a point
    pub chart_call_status : OneOf chart_statuses (chart_seen sheet phase points result).returns.status
    chart_call_status = subst (OneOf chart_statuses) (sym chart_status) (chart_status_one sheet phase points)

-- ---- the other calls, each lent nothing to write

demand_1 : (n : Numbers) (table : List ℕ) → ((n.status ≡ 0 → ⊥) → n ≡ refused n.status) → OneOf table n.status → Demand1 n table
demand_1 n table r l =
    record {
      unwritten = λ result h. sym (other_length n result h);
      zeroed = λ result h k. zeros_beside n result h (r (λ e. k (status_is n result h ∙ e)));
      numbered = λ result h. subst (OneOf table) (sym (status_is n result h)) l;
    }

pub image_pick_demand_1 : (sheet : List ℕ) (phase : ℕ) (images : List Float) → Demand1 (image_pick_of sheet phase images) image_statuses
image_pick_demand_1 sheet phase images = demand_1 (image_pick_of sheet phase images) image_statuses (image_pick_refused sheet phase images) (image_pick_status_one sheet phase images)

pub plane_pick_demand_1 : (sheet : List ℕ) → Demand1 (plane_pick_of sheet) plane_statuses
plane_pick_demand_1 sheet = demand_1 (plane_pick_of sheet) plane_statuses (plane_pick_refused sheet) (plane_pick_status_one sheet)

-- the same of what the picks return, sentence by sentence

module _ (sheet : List ℕ) (phase : ℕ) (images result : List Float) where
  pub image_pick_call_other_length : (length result ≡ 5 → ⊥) → image_pick_returned sheet phase images result ≡ returned 1 result
  unfolding image_pick_returned
  image_pick_call_other_length h = (image_pick_demand_1 sheet phase images).unwritten result h

  module _ (h : length result ≡ 5) where
    pub image_pick_call_refused : ((image_pick_returned sheet phase images result).status ≡ 0 → ⊥) → (image_pick_returned sheet phase images result).result ≡ zeros
    unfolding image_pick_returned
    image_pick_call_refused n = (image_pick_demand_1 sheet phase images).zeroed result h n

    pub image_pick_call_status : OneOf image_statuses (image_pick_returned sheet phase images result).status
    unfolding image_pick_returned
    image_pick_call_status = (image_pick_demand_1 sheet phase images).numbered result h

module _ (sheet : List ℕ) (result : List Float) where
  pub plane_pick_call_other_length : (length result ≡ 5 → ⊥) → plane_pick_returned sheet result ≡ returned 1 result
  unfolding plane_pick_returned
  plane_pick_call_other_length h = (plane_pick_demand_1 sheet).unwritten result h

  module _ (h : length result ≡ 5) where
    pub plane_pick_call_refused : ((plane_pick_returned sheet result).status ≡ 0 → ⊥) → (plane_pick_returned sheet result).result ≡ zeros
    unfolding plane_pick_returned
    plane_pick_call_refused n = (plane_pick_demand_1 sheet).zeroed result h n

    pub plane_pick_call_status : OneOf plane_statuses (plane_pick_returned sheet result).status
    unfolding plane_pick_returned
    plane_pick_call_status = (plane_pick_demand_1 sheet).numbered result h

-- ---- the calls after the picker

pub sample_parameter_demand_1 : (a b : Float) (n : ℕ) → Demand1 (sample_parameter_of a b n) (0 ∷ 16 ∷ [])
sample_parameter_demand_1 a b n = demand_1 (sample_parameter_of a b n) (0 ∷ 16 ∷ []) (sample_parameter_refused a b n) (sample_parameter_status a b n)

pub direction_demand_1 : (points : List Float) → Demand1 (direction_of points) (0 ∷ 16 ∷ [])
direction_demand_1 points = demand_1 (direction_of points) (0 ∷ 16 ∷ []) (direction_refused points) (direction_status points)

pub triangle_demand_1 : (centre : List Float) (radius : Float) (sense : ℕ) (sides : List Float) → Demand1 (triangle_lists_of centre radius sense sides) (0 ∷ 16 ∷ 17 ∷ 18 ∷ 19 ∷ [])
triangle_demand_1 centre radius sense sides = demand_1 (triangle_lists_of centre radius sense sides) (0 ∷ 16 ∷ 17 ∷ 18 ∷ 19 ∷ []) (triangle_lists_refused centre radius sense sides) (triangle_lists_status centre radius sense sides)

pub point_on_demand_1 : (u_axis normal corners : List Float) → Demand1 (point_on_of u_axis normal corners) (0 ∷ 16 ∷ 20 ∷ 21 ∷ [])
point_on_demand_1 u_axis normal corners = demand_1 (point_on_of u_axis normal corners) (0 ∷ 16 ∷ 20 ∷ 21 ∷ []) (point_on_refused u_axis normal corners) (point_on_status u_axis normal corners)

pub cylinder_point_demand_1 : (heights angles : List Float) → Demand1 (cylinder_point_of heights angles) (0 ∷ 16 ∷ 22 ∷ 23 ∷ [])
cylinder_point_demand_1 heights angles = demand_1 (cylinder_point_of heights angles) (0 ∷ 16 ∷ 22 ∷ 23 ∷ []) (cylinder_refused heights angles) (cylinder_status heights angles)

pub placed_demand_1 : (transform point : List Float) → Demand1 (placed_of transform point) (0 ∷ 16 ∷ 24 ∷ [])
placed_demand_1 transform point = demand_1 (placed_of transform point) (0 ∷ 16 ∷ 24 ∷ []) (placed_refused transform point) (placed_status transform point)
