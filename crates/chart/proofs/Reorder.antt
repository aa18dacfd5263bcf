-- "For every reordering of the rings of a sheet whose layout reads, images moved with them, chart, image pick and plane
-- pick each give the same status, point, clearance and count, bit for bit."
-- Here the chart. The same ring blocks in another order, all else in the call the same: the layout reads, the blocks
-- are those, and the status, the point, the clearance and the count do not change, whether
-- the sheet is refused or not.
use mathlib.Core.Path.{◌≡◌, sym, ap, ap₂, ◌∙◌}
use mathlib.Core.List.{List, ◌++◌, map, flatten, Permᴰ}
use Prim.Native.Nat.{ℕ}
use lib.ListN.{length}
use lib.Ieee.{Float}
use Rattle.leaves.proofs.Folds.{All}
use Rattle.sheet.specs.Content.{Coedge, Sheet, ring_points}
use Rattle.sheet.specs.Layout.{version, head, blocks, ring, sheet_of}
use Rattle.answers.specs.Outcome.{first, Numbers, settled}
use Rattle.sheet.specs.Checks.{layout_checks}
use Rattle.sheet.proofs.BlockOrder.{its_blocks, its_layout, its_rings, its_sheet, rings_clear, whole, with_rings}
use Rattle.answers.proofs.FirstCheck.{first_passed}
use Rattle.sheet.proofs.Checked.{layout_numbered}
use Rattle.sheet.proofs.Reading.{ClearPoint}
use Rattle.chart.specs.Chart.{answered, chosen, chart_of}
use Rattle.frame.specs.Framing.{frame}
use Rattle.chart.proofs.AnyOrder.{same_answer, same_later}
use Rattle.chart.proofs.Outcomes.{chart_checks_lem, chart_numbers, later_checks}

-- ---- the numbers of a sheet's content

abbrev pub numbers_of : Sheet → ℕ → ℕ → Numbers
numbers_of s phase room = settled (first (later_checks s phase room)) (answered (frame s phase) phase (chosen s phase))

content_numbers : (s : List ℕ) → first (layout_checks s) ≡ 0 → (phase : ℕ) (out : List Float) → (chart_of s phase out).numbers ≡ numbers_of (sheet_of s) phase (length out)
content_numbers s reads phase out =
    chart_numbers s phase out
    ∙ ap (λ (r : ℕ). settled r (answered (frame (sheet_of s) phase) phase (chosen (sheet_of s) phase)))
    (ap first (chart_checks_lem s phase (length out)) ∙ first_passed (layout_checks s) (later_checks (sheet_of s) phase (length out)) (layout_numbered s) reads)

pub content_reordered : (s : Sheet) (rings : List (List Coedge)) → Permᴰ s.rings rings → All (λ (r : List Coedge). All ClearPoint (ring_points r)) s.rings → (phase room : ℕ)
    → numbers_of s phase room ≡ numbers_of (with_rings s rings) phase room
content_reordered s rings d clear phase room = ap₂ settled (ap first (same_later s rings d phase clear room)) (same_answer s rings d phase clear)

-- ---- of bytes

module _ (s : List ℕ) (reads : first (layout_checks s) ≡ 0) (bs : List (List ℕ)) (d : Permᴰ (blocks s) bs) where
  same_numbers : (phase : ℕ) (out : List Float) → (chart_of (head s ++ flatten bs) phase out).numbers ≡ (chart_of s phase out).numbers
  same_numbers phase out =
      content_numbers (head s ++ flatten bs) (its_layout s reads bs d) phase out
      ∙ ap (λ (z : Sheet). numbers_of z phase (length out)) (its_sheet s reads bs d)
      ∙ sym (content_reordered (sheet_of s) (map (ring (version s)) bs) (its_rings s reads bs d) (rings_clear s) phase (length out))
      ∙ sym (content_numbers s reads phase out)

  pub chart_reordered : (s ≡ head s ++ flatten (blocks s)) × (first (layout_checks (head s ++ flatten bs)) ≡ 0) × (blocks (head s ++ flatten bs) ≡ bs)
      × ((phase : ℕ) (out : List Float) → (chart_of (head s ++ flatten bs) phase out).numbers ≡ (chart_of s phase out).numbers)
  chart_reordered = (whole s reads, its_layout s reads bs d, its_blocks s reads bs d, same_numbers)
