-- "For every division of the rings into two groups, and at every grid point, the crossings of the one group and of the
-- other, with the whole sheet's box and period, add to those of all the rings."
-- The sum holds for every list of bytes, whichever checks it passes, and at every point. A division is told by a test
-- of the ring's place.
use mathlib.Core.Bool.{Bool}
use mathlib.Core.List.{List}
use Prim.Native.Nat.{ℕ}
use Rattle.sheet.specs.Content.{Point}
use Rattle.sheet.specs.Layout.{sheet_of}
use Rattle.chart.specs.Chart.{normalised}
use Rattle.frame.specs.Framing.{frame}
use Rattle.chart.specs.Demand.{GroupsAdd}
use Rattle.chart.proofs.Crossings.{crossings_add}

pub groups_add : (s : List ℕ) (phase : ℕ) (d : ℕ → Bool) (p : Point) → GroupsAdd (sheet_of s) phase d p
groups_add s phase d p = crossings_add (frame (sheet_of s) phase) (normalised (sheet_of s) phase) d p
