-- Demand 3, whole: the record of specs/Demand.antt, each field by its theorem, which stands in GridRule, Reorder or
-- Groups of the chart or of the picker.
use Rattle.chart.proofs.GridRule.{chart_grid_rule}
use Rattle.chart.proofs.Groups.{groups_add}
use Rattle.chart.proofs.Reorder.{chart_reordered}
use Rattle.picker.specs.Demand.{Demand3}
use Rattle.picker.proofs.GridRule.{image_grid_rule, plane_grid_rule}
use Rattle.picker.proofs.Groups.{image_groups_add, plane_groups_add}
use Rattle.picker.proofs.Reorder.{every_order, image_pick_reordered, image_pick_wrong_length, plane_pick_reordered}

pub demand_3 : Demand3
demand_3 = record {
  chart_grid = chart_grid_rule;
  image_grid = image_grid_rule;
  plane_grid = plane_grid_rule;
  chart_order = chart_reordered;
  image_order = image_pick_reordered;
  image_every_order = every_order;
  image_order_wrong_length = image_pick_wrong_length;
  plane_order = plane_pick_reordered;
  chart_groups = groups_add;
  image_groups = image_groups_add;
  plane_groups = plane_groups_add;
}
