-- Document 01, "Chart", rule 9: "Best so far starts at clearance 0 and is replaced only by a greater one. Added: the
-- result counts the covered grid points", over any coverage and any clearance of the grid points.
-- A Candidate is the code's struct (src/candidate.rt): u and v of the best grid point so far, its clearance, and the
-- count of the covered ones.
use Rattle.std.specs.Prelude.{Bool, cond, ℕ, ◌+◌, Float}
use mathlib.Core.List.{foldl}
use Rattle.std.specs.Float.Ieee.{lt}
use Rattle.leaves.specs.Constants.{plus_zero}
use Rattle.points.specs.Grid.{lines, part}
use Rattle.search.specs.declared.candidate.Candidate.{Candidate}

abbrev pub start : Candidate
start = record { u = plus_zero; v = plus_zero; clearance = plus_zero; count = 0 }

-- replaced by (i, j) where its clearance d is greater
unfoldable pub better : ℕ → ℕ → Float → Candidate → Candidate
unfolding lt part
better i j d best = cond (lt best.clearance d) (record { u = part i; v = part j; clearance = d; count = best.count }) best

unfoldable pub counted : Candidate → Candidate
counted best = record { u = best.u; v = best.v; clearance = best.clearance; count = best.count + 1 }

-- "the result counts the covered grid points": whether a grid point, covered or not and of this clearance, is counted
abbrev pub counted_point : Bool → Float → Bool
counted_point covered d = covered

unfoldable pub tallied : Bool → Candidate → Candidate
unfolding counted
tallied counts best = cond counts (counted best) best

module _ (cover : ℕ → ℕ → Bool) (clear : ℕ → ℕ → Float) where
  unfoldable pub visit : ℕ → Candidate → ℕ → Candidate
  unfolding better tallied
  visit i best j = tallied (counted_point (cover i j) (clear i j)) (cond (cover i j) (better i j (clear i j) best) best)

  -- j from 1 to 31, inner
  unfoldable pub column : Candidate → ℕ → Candidate
  unfolding visit lines
  column best i = foldl (visit i) best lines

  -- i from 1 to 31, outer
  unfoldable pub search : Candidate
  unfolding column lines
  search = foldl column start lines
