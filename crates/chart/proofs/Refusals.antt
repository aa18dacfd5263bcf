-- "A refusal gives zeros beside its number and leaves each lent list unwritten." Here the chart: where the status is
-- not 0 the five other numbers are zeros and the list is as it was. The status is one of its table's.
use mathlib.Core.Path.{◌≡◌, sym, ap, ◌∙◌, subst}
use mathlib.Core.Bool.{Bool, cond}
use mathlib.Core.List.{List}
use Prim.Native.Nat.{ℕ}
use lib.ListN.{length}
use borrow.Author.Tests.{ne_eqb}
use lib.Ieee.{Float}
use Rattle.sheet.specs.Layout.{sheet_of}
use Rattle.answers.specs.Outcome.{first, refused, OneOf}
use Rattle.sheet.specs.Checks.{layout_checks, content_checks}
use Rattle.chart.specs.Chart.{answered, chosen, frame_checks, chart_checks, chart_of}
use Rattle.chart.specs.Demand.{chart_statuses}
use Rattle.frame.specs.Framing.{frame}
use Rattle.answers.proofs.FirstCheck.{first_one_of}
use Rattle.answers.proofs.Settled.{settled_refused}
use Rattle.chart.proofs.Outcomes.{chart_numbers, chart_points, chart_status, written_over}

checks_one : (s : List ℕ) (phase room : ℕ) → OneOf chart_statuses (first (chart_checks s phase room))
checks_one s phase room =
    first_one_of chart_statuses (chart_checks s phase room) tt (unfold chart_checks layout_checks content_checks frame_checks in (tt, (tt, (tt, (tt, (tt, (tt, (tt, (tt, (tt, (tt, (tt, (tt, (tt, tt))))))))))))))

module _ (s : List ℕ) (phase : ℕ) (out : List Float) where
  pub chart_refused : ((chart_of s phase out).numbers.status ≡ 0 → ⊥) → ((chart_of s phase out).numbers ≡ refused (chart_of s phase out).numbers.status) × ((chart_of s phase out).points ≡ out)
  chart_refused h =
      let r = first (chart_checks s phase (length out)) in
      let n : r ≡ 0 → ⊥ = λ e. h (chart_status s phase out ∙ e) in (
        chart_numbers s phase out ∙ settled_refused r (answered (frame (sheet_of s) phase) phase (chosen (sheet_of s) phase)) n ∙ ap refused (sym (chart_status s phase out)),
        chart_points s phase out ∙ ap (λ (b : Bool). cond b (written_over s phase out (sheet_of s)) out) (ne_eqb r 0 n),
      )

  -- a number of the table, or 0 for a point
  pub chart_status_one : OneOf chart_statuses (chart_of s phase out).numbers.status
  chart_status_one = subst (OneOf chart_statuses) (sym (chart_status s phase out)) (checks_one s phase (length out))
