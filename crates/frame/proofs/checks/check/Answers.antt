-- `frame::checks::check` is the first of 1 to 8 that fails: those of the reader, then the phase.
use mathlib.Core.Path.{sym, ◌∙◌}
use mathlib.Core.List.{[], ◌∷◌, ◌++◌}
use Rattle.answers.specs.Outcome.{check, first, number_of, status_of}
use Rattle.answers.proofs.Papers.{refused_somewhere}
use Rattle.answers.proofs.FirstCheck.{first_passed, first_refused, first_here, first_later}
use Rattle.sheet.specs.Checks.{layout_checks, content_checks}
use Rattle.sheet.specs.Layout.{sheet_of}
use Rattle.sheet.proofs.Checked.{sheet_numbered}
use Rattle.frame.specs.Framing.{phase_wrong}
use Rattle.frame.specs.Seam.{phase_checks}
use Rattle.frame.proofs.PassedOn.{passed_on}
use Rattle.frame.proofs.checks.check.Goals as goal

pub returns-in_err-check : goal.returns-in_err-check
unfolding phase_checks
returns-in_err-check c =
    let s = c.args.s.now in
    rw (passed_on c.from_residual.ensures.1) (c.in_err-check.ensures ∙ sym (first_refused (layout_checks s ++ content_checks (sheet_of s)) _ (λ z. refused_somewhere _ _ (c.in_err-check.ensures ∙ z))))

pub returns-then-phase_wrong : goal.returns-then-phase_wrong
unfolding phase_checks first status_of number_of
returns-then-phase_wrong c =
    let s = c.args.s.now in
    let phase = c.args.phase in
    let reads = sym (c.in_ok-check.ensures) in
    sym (first_passed (layout_checks s ++ content_checks (sheet_of s)) (check 8 (phase_wrong (sheet_of s) phase) ∷ []) (sheet_numbered s) reads ∙ first_here (check 8 (phase_wrong (sheet_of s) phase)) [] (sym c.phase_wrong.ensures ∙ c.if-phase_wrong.true))

pub returns : goal.returns
unfolding phase_checks first status_of
returns c =
    let s = c.args.s.now in
    let phase = c.args.phase in
    let reads = sym (c.in_ok-check.ensures) in
    sym (first_passed (layout_checks s ++ content_checks (sheet_of s)) (check 8 (phase_wrong (sheet_of s) phase) ∷ []) (sheet_numbered s) reads ∙ first_later (check 8 (phase_wrong (sheet_of s) phase)) [] (sym c.phase_wrong.ensures ∙ c.if-phase_wrong.false))
