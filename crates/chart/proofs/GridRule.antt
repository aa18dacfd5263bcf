-- "Suppose a sheet passes every check through the joins. Then the answer is refusal 14 exactly when none of its 31 × 31
-- grid points is covered with computed clearance above 0.01. Otherwise the chosen point is
-- covered. Every other covered grid point has at most its clearance, and those with the same clearance come after it, u
-- before v. An answer is this point's, with the coverage, clearance and count of document
-- 01's rules 7 to 9."
use mathlib.Core.Path.{◌≡◌, refl, sym, ap, ◌∙◌}
use mathlib.Core.Logic.{◌↔◌, ◌⊎◌, ⊎_elim}
use mathlib.Core.Bool.{Bool, true, false, not, cond, true≢false}
use mathlib.Core.List.{List, [], ◌∷◌}
use Prim.Native.Nat.{ℕ}
use native.Mathlib.Omega.{arith}
use lib.Dec.{T, eqb}
use lib.ListN.{length}
use lib.Ieee.{Float, binary64, fits, is_nan, lt}
use Rattle.leaves.specs.Constants.{clearance_limit}
use Rattle.sheet.specs.Content.{Sheet}
use Rattle.sheet.specs.Layout.{sheet_of}
use Rattle.answers.specs.Outcome.{Check, check, first, Numbers, refused, settled}
use Rattle.sheet.specs.Checks.{layout_checks, content_checks}
use Rattle.answers.proofs.FirstCheck.{Lacks, Numbered, first_passed, lacks_first}
use Rattle.points.specs.Grid.{grid_point}
use Rattle.search.specs.Search.{search}
use Rattle.chart.specs.Chart.{candidate, normalised, chosen, answered, none_clear, frame_checks, chart_checks, chart_of}
use Rattle.frame.specs.Framing.{frame}
use Rattle.chart.specs.Demand.{Clearest, NoneServes, Passes, Rule, candidate_at, clear_at, cover_at, down_to}
use Rattle.search.specs.declared.candidate.Candidate.{Candidate}
use Rattle.chart.proofs.Clearances.{clearance_held, clearance_number}
use Rattle.chart.proofs.Clearest.{clearest_chosen, none_serves}
use Rattle.chart.proofs.Outcomes.{Parted, chart_numbers, chart_status, down_numbered, first_above, first_passes}
use Rattle.answers.proofs.Settled.{settled_status}

-- ---- the search over a sheet's content, whatever the call

module _ (s : Sheet) (phase : ℕ) where
  chosen_search : chosen s phase ≡ search (cover_at s phase) (clear_at s phase)
  unfolding chosen candidate cover_at clear_at
  chosen_search = refl

  clear_held : (i j : ℕ) → T (fits binary64 (clear_at s phase i j))
  unfolding clear_at
  clear_held i j = clearance_held (frame s phase) (normalised s phase) (grid_point i j)

  clear_number : (i j : ℕ) → T (not (is_nan (clear_at s phase i j)))
  unfolding clear_at
  clear_number i j = clearance_number (frame s phase) (normalised s phase) (grid_point i j)

  pub sheet_none : NoneServes (cover_at s phase) (clear_at s phase) ↔ (lt clearance_limit (chosen s phase).clearance ≡ false)
  sheet_none = rw chosen_search (none_serves (cover_at s phase) (clear_at s phase) clear_held clear_number)

  -- the clearest covered grid point, as the search gives it
  pub sheet_chosen : lt clearance_limit (chosen s phase).clearance ≡ true
      → (i : ℕ) × (j : ℕ) × Clearest (cover_at s phase) (clear_at s phase) i j × (chosen s phase ≡ candidate_at (cover_at s phase) (clear_at s phase) i j)
  sheet_chosen = rw chosen_search (clearest_chosen (cover_at s phase) (clear_at s phase) clear_held clear_number)

-- ---- the grid rule of every call: a table in which row 14 stands behind the rows down to 13, and a call's own rows
-- behind it, and an answer that is the chosen grid point's

-- what row 14 settles
row_settles : (c : Candidate) (later : ℕ) (answer : Numbers) → settled (cond (none_clear c) 14 later) answer ≡ cond (lt clearance_limit c.clearance) (settled later answer) (refused 14)
unfolding none_clear settled
row_settles c later answer = by (lt clearance_limit c.clearance)
  where
    by : (b : Bool) → cond (eqb (cond (not b) 14 later) 0) answer (refused (cond (not b) 14 later)) ≡ cond b (cond (eqb later 0) answer (refused later)) (refused 14)
    by true = refl
    by false = refl

-- such a call of a sheet, by what stands below 14 and the answer, both of the grid point
pub record Call (s : Sheet) (phase : ℕ) (cs : List Check) (below : Candidate → List Check) (answer : Candidate → Numbers) : Type 0 where
  pub numbered : Numbered cs
  pub parts : Parted 13 cs (check 14 (none_clear (chosen s phase)) ∷ below (chosen s phase))
  pub later : (c : Candidate) → Lacks 14 (below c)
  pub answers : (c : Candidate) → (answer c).status ≡ 0

module _ (s : Sheet) (phase : ℕ) (cs : List Check) (below : Candidate → List Check) (answer : Candidate → Numbers) (call : Call s phase cs below answer) (passes : Passes 13 cs) where
  refusal_is : first cs ≡ cond (none_clear (chosen s phase)) 14 (first (below (chosen s phase)))
  unfolding first
  refusal_is = ap first call.parts ∙ first_passed (down_to 13 cs) (check 14 (none_clear (chosen s phase)) ∷ below (chosen s phase)) (down_numbered 13 cs call.numbered) passes

  call_is : (b : Bool) → lt clearance_limit (chosen s phase).clearance ≡ b
      → settled (first cs) (answer (chosen s phase)) ≡ cond b (settled (first (below (chosen s phase))) (answer (chosen s phase))) (refused 14)
  call_is b e =
      ap (λ (r : ℕ). settled r (answer (chosen s phase))) refusal_is
      ∙ row_settles (chosen s phase) (first (below (chosen s phase))) (answer (chosen s phase))
      ∙ ap (λ (b : Bool). cond b (settled (first (below (chosen s phase))) (answer (chosen s phase))) (refused 14)) e

  refuses : (b : Bool) → lt clearance_limit (chosen s phase).clearance ≡ b → ((settled (first cs) (answer (chosen s phase))).status ≡ 14) ↔ NoneServes (cover_at s phase) (clear_at s phase)
  refuses true e = (
    λ h. absurd (lacks_first 14 (below (chosen s phase)) (omega arith) (call.later (chosen s phase))
        (sym (settled_status (first (below (chosen s phase))) (answer (chosen s phase)) (call.answers (chosen s phase))) ∙ sym (ap (λ (n : Numbers). n.status) (call_is true e)) ∙ h)),
    λ none. absurd (true≢false (sym e ∙ (sheet_none s phase).0 none)),
  )
  refuses false e = (λ h. (sheet_none s phase).1 e, λ none. ap (λ (n : Numbers). n.status) (call_is false e))

  chooses : (b : Bool) → lt clearance_limit (chosen s phase).clearance ≡ b → (NoneServes (cover_at s phase) (clear_at s phase) → ⊥)
      → (i : ℕ) × (j : ℕ) × Clearest (cover_at s phase) (clear_at s phase) i j
      × (settled (first cs) (answer (chosen s phase)) ≡ settled (first (below (candidate_at (cover_at s phase) (clear_at s phase) i j))) (answer (candidate_at (cover_at s phase) (clear_at s phase) i j)))
  chooses true e some =
      let (i, j, c, w) = sheet_chosen s phase e in
      (i, j, c, call_is true e ∙ ap (λ (z : Candidate). settled (first (below z)) (answer z)) w)
  chooses false e some = absurd (some ((sheet_none s phase).1 e))

  -- 14 exactly where no grid point serves; otherwise what the rows below 14 settle of the clearest covered grid point's
  -- answer
  pub grid_rule : (((settled (first cs) (answer (chosen s phase))).status ≡ 14) ↔ NoneServes (cover_at s phase) (clear_at s phase))
      × ((NoneServes (cover_at s phase) (clear_at s phase) → ⊥)
      → (i : ℕ) × (j : ℕ) × Clearest (cover_at s phase) (clear_at s phase) i j
      × (settled (first cs) (answer (chosen s phase)) ≡ settled (first (below (candidate_at (cover_at s phase) (clear_at s phase) i j))) (answer (candidate_at (cover_at s phase) (clear_at s phase) i j))))
  grid_rule = (refuses (lt clearance_limit (chosen s phase).clearance) refl, chooses (lt clearance_limit (chosen s phase).clearance) refl)

-- ---- the chart, which has no row below 14

module _ (s : List ℕ) (phase room : ℕ) where
  chart_parted : Parted 13 (chart_checks s phase room) (check 14 (none_clear (chosen (sheet_of s) phase)) ∷ [])
  unfolding down_to chart_checks frame_checks layout_checks content_checks
  chart_parted = refl

  chart_down_lacks : Lacks 14 (down_to 13 (chart_checks s phase room))
  unfolding down_to chart_checks frame_checks layout_checks content_checks
  chart_down_lacks = (refl, (refl, (refl, (refl, (refl, (refl, (refl, (refl, (refl, (refl, (refl, (refl, tt))))))))))))

  chart_call : Call (sheet_of s) phase (chart_checks s phase room) (λ (c : Candidate). []) (answered (frame (sheet_of s) phase) phase)
  unfolding answered
  chart_call = record {
    numbered = unfold chart_checks layout_checks content_checks frame_checks in omega arith;
    parts = chart_parted;
    later = λ c. tt;
    answers = λ c. refl;
  }

module _ (s : List ℕ) (phase : ℕ) (out : List Float) where
  -- refusal 14 exactly where no grid point serves; otherwise status 0, with the clearest covered grid point by the
  -- chart's formula, its clearance and the number of covered grid points
  pub chart_grid_rule : Passes 13 (chart_checks s phase (length out)) → Rule (sheet_of s) phase (chart_of s phase out).numbers (answered (frame (sheet_of s) phase) phase)
  unfolding first settled
  chart_grid_rule passes =
      rw (chart_numbers s phase out) (grid_rule (sheet_of s) phase (chart_checks s phase (length out)) (λ (c : Candidate). []) (answered (frame (sheet_of s) phase) phase) (chart_call s phase (length out)) passes)

  -- where one of the rows down to 13 fails, the first that does is the status
  pub refused_above : (Passes 13 (chart_checks s phase (length out)) → ⊥) → (chart_of s phase out).numbers.status ≡ first (down_to 13 (chart_checks s phase (length out)))
  refused_above n = chart_status s phase out ∙ first_above 13 (chart_checks s phase (length out)) (check 14 (none_clear (chosen (sheet_of s) phase)) ∷ []) (chart_parted s phase (length out)) n

  -- the checks down to 13 pass where the status is 0 or 14, and by the rule only there
  pub passes_joins : ((chart_of s phase out).numbers.status ≡ 0) ⊎ ((chart_of s phase out).numbers.status ≡ 14) → Passes 13 (chart_checks s phase (length out))
  passes_joins h =
      let passes = first_passes 13 (chart_checks s phase (length out)) (check 14 (none_clear (chosen (sheet_of s) phase)) ∷ []) (chart_parted s phase (length out)) in
      ⊎_elim (λ e. passes 0 (λ l. absurd (omega (arith, l))) (sym (chart_status s phase out) ∙ e)) (λ e. passes 14 (λ l. chart_down_lacks s phase (length out)) (sym (chart_status s phase out) ∙ e)) h
