-- The choice, a column at a time: what is left of the search from the column i on, each column measured from the
-- segments that its points are measured from.
use mathlib.Core.Path.{◌≡◌, sym, ap, ◌∙◌}
use mathlib.Core.Bool.{Bool}
use mathlib.Core.List.{List}
use Prim.Native.Nat.{ℕ, ◌+◌, ◌<◌, ◌≤◌}
use lib.Ieee.{Float}
use Rattle.std.proofs.Common.{Option}
use Rattle.points.specs.Grid.{part}
use Rattle.points.specs.Segments.{Segment}
use Rattle.clearance.specs.SegmentLists.{copies_at}
use Rattle.search.specs.Chosen.{covered_at, clear_to, clearance_at, chosen_among}
use Rattle.search.specs.Search.{start, column}
use Rattle.search.specs.declared.candidate.Candidate.{Candidate}
use Rattle.search.proofs.Visits.{search_from, search_start, search_step, search_end, column_same}

module _ (period : Option Float) (list : List Segment) (covered : List Bool) where
  -- from the candidate found so far
  abbrev pub choice_from : Candidate → ℕ → Candidate
  choice_from best i = search_from (covered_at covered) (clearance_at period list) best i

  pub choice_start : {best : Candidate} → best ≡ start → choice_from best 1 ≡ chosen_among period list covered
  unfolding chosen_among
  choice_start e = ap (λ (b : Candidate). choice_from b 1) e ∙ search_start (covered_at covered) (clearance_at period list)

  -- the column i is measured from these
  pub choice_step : (copies : List Segment) (i : ℕ) (best : Candidate) {next : Candidate} → copies ≡ copies_at period (part i) list → i < 32 → next ≡ column (covered_at covered) (clear_to copies) best i → choice_from next (i + 1) ≡ choice_from best i
  unfolding clearance_at
  choice_step copies i best are h is =
      ap (λ (b : Candidate). choice_from b (i + 1)) (is ∙ column_same (covered_at covered) (clear_to copies) (clearance_at period list) i (λ j. ap (λ (ss : List Segment). clear_to ss i j) are) best)
      ∙ sym (search_step (covered_at covered) (clearance_at period list) best i h)

  pub choice_end : (best : Candidate) (i : ℕ) → 32 ≤ i → choice_from best i ≡ best
  choice_end best i h = search_end (covered_at covered) (clearance_at period list) best i h
