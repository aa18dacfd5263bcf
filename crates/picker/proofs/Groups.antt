-- "For every division of the rings into two groups, and at every grid point, the crossings of the one group and of the
-- other, with the whole sheet's box and period, add to those of all the rings."
-- Document 01: "for every sheet that passes a call's checks down to 8, at that call's phase". The chart's sum holds for
-- every list of bytes, every phase and every point, so it holds at image pick's phase and
-- at plane pick's, which is 0, whichever checks the call passes.
use mathlib.Core.Bool.{Bool}
use mathlib.Core.List.{List}
use Prim.Native.Nat.{ℕ}
use Rattle.sheet.specs.Content.{Point}
use Rattle.sheet.specs.Layout.{sheet_of}
use Rattle.chart.specs.Demand.{GroupsAdd}
use Rattle.chart.proofs.Groups.{groups_add}

pub image_groups_add : (s : List ℕ) (phase : ℕ) (d : ℕ → Bool) (p : Point) → GroupsAdd (sheet_of s) phase d p
image_groups_add s phase d p = groups_add s phase d p

pub plane_groups_add : (s : List ℕ) (d : ℕ → Bool) (p : Point) → GroupsAdd (sheet_of s) 0 d p
plane_groups_add s d p = groups_add s 0 d p
