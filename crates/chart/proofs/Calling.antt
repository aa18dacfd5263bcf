-- The chart call: a check down to 9 that fails is the answer; behind them the grid point that is found, with the
-- written points.
use mathlib.Core.Bool.{Bool, false, true, cond}
use mathlib.Core.List.{List, [], ◌∷◌, ◌++◌, map, flatten, append_assoc}
use mathlib.Core.Path.{◌≡◌, refl, sym, ap, ap₂, ◌∙◌}
use Prim.Native.Nat.{ℕ, ◌*◌, ◌≤◌, ◌<◌}
use native.Mathlib.Omega.{arith}
use lib.Dec.{eqb}
use lib.Ieee.{Float}
use lib.ListN.{length, length-map, take, replicate}
use borrow.Author.Tests.{ltb-false, lt-ltb, le-ltb, ne_eqb, eq-eqb}
use Rattle.std.specs.Prelude.{Result, Ok, Err}
use Rattle.answers.specs.Answers.{paper, values_numbers}
use Rattle.answers.specs.Lists.{over}
use Rattle.answers.specs.Outcome.{Check, check, first, settled, number_of}
use Rattle.answers.specs.declared.outcomes.Values.{Values}
use Rattle.answers.specs.declared.refusal.Refusal.{Refusal}
use Rattle.answers.specs.declared.refusal.Refusal.TheVariants.{Room}
use Rattle.answers.proofs.FirstCheck.{Numbered, none_fails, first_passed, first_refused, first_here, first_later, append_none}
use Rattle.answers.proofs.Over.{over_room, length_front}
use Rattle.answers.proofs.Papers.{paper_ok, paper_err, not_zero}
use Rattle.answers.proofs.Settled.{settled_none, settled_refused}
use Rattle.sheet.specs.Checks.{layout_checks, content_checks}
use Rattle.sheet.specs.Content.{Point, flat}
use Rattle.sheet.specs.Layout.{ring_count, sheet_of}
use Rattle.sheet.proofs.Checked.{checked, ring_number, sheet_numbered}
use Rattle.points.specs.Written.{written, written_point}
use Rattle.points.proofs.Flat.{length_flat}
use Rattle.frame.specs.Framing.{moved_rings, frame, point_count, phase_wrong}
use Rattle.frame.specs.Seam.{fitting, phase_checks}
use Rattle.frame.specs.declared.framing.Frame.{Frame}
use Rattle.frame.proofs.LaidOut.{is_fitting}
use Rattle.frame.proofs.SheetFrame.{points_most, moved_points}
use Rattle.search.specs.declared.candidate.Candidate.{Candidate}
use Rattle.chart.specs.Chart.{answered, charted, chart_of, chart_checks, frame_checks, chosen, room_wrong}
use Rattle.chart.specs.Stages.{Passed}
use Rattle.chart.proofs.Outcomes.{chart_numbers, chart_points, written_over}

-- ---- the rows down to 8

pub phase_rows : (s : List ℕ) (phase : ℕ) → phase_checks s phase ≡ layout_checks s ++ content_checks (sheet_of s) ++ check 8 (phase_wrong (sheet_of s) phase) ∷ []
unfolding phase_checks
phase_rows s phase = refl

pub phase_numbered : (s : List ℕ) (phase : ℕ) → Numbered (phase_checks s phase)
phase_numbered s phase = unfold phase_checks layout_checks content_checks in omega arith

-- what passes them
pub reads_of : (s : List ℕ) (phase : ℕ) → first (phase_checks s phase) ≡ 0 → first (layout_checks s ++ content_checks (sheet_of s)) ≡ 0
unfolding phase_checks
reads_of s phase e = (append_none (layout_checks s ++ content_checks (sheet_of s)) (check 8 (phase_wrong (sheet_of s) phase) ∷ []) (sheet_numbered s) e).0

pub phase_of : (s : List ℕ) (phase : ℕ) → first (phase_checks s phase) ≡ 0 → phase_wrong (sheet_of s) phase ≡ false
unfolding phase_checks
phase_of s phase e =
    let row = check 8 (phase_wrong (sheet_of s) phase) ∷ [] in
    (none_fails row (omega arith) (append_none (layout_checks s ++ content_checks (sheet_of s)) row (sheet_numbered s) e).1).0

-- ---- a call that a check refuses

module _ (s : List ℕ) (phase : ℕ) (out : List Float) where
  -- the answer is the call's
  abbrev pub Called : Result Values Refusal → List Float → Type 0
  Called r after = charted (paper r) after ≡ chart_of s phase out

  refused_by : (r : Refusal) → first (chart_checks s phase (length out)) ≡ number_of r → Called (Err r) out
  refused_by r e =
      let answer = answered (frame (sheet_of s) phase) phase (chosen (sheet_of s) phase) in
      ap₂ charted
      (paper_err values_numbers r ∙ sym (chart_numbers s phase out ∙ ap (λ (n : ℕ). settled n answer) e ∙ settled_refused (number_of r) answer (not_zero r)))
      (sym (chart_points s phase out ∙ ap (λ (b : Bool). cond b (written_over s phase out (sheet_of s)) out) (ap (λ (n : ℕ). eqb n 0) e ∙ ne_eqb (number_of r) 0 (not_zero r))))

  -- the rows behind 8
  abbrev later : List Check
  later = check 9 (room_wrong (sheet_of s) (length out)) ∷ frame_checks (sheet_of s) phase

  checks_are : chart_checks s phase (length out) ≡ phase_checks s phase ++ later
  unfolding chart_checks phase_checks
  checks_are = sym (append_assoc (layout_checks s ++ content_checks (sheet_of s)) (check 8 (phase_wrong (sheet_of s) phase) ∷ []) later)

  pub call_unread : (r : Refusal) → number_of r ≡ first (phase_checks s phase) → Called (Err r) out
  call_unread r e = refused_by r (ap first checks_are ∙ first_refused (phase_checks s phase) later (λ z. not_zero r (e ∙ z)) ∙ sym e)

  module _ (passes : first (phase_checks s phase) ≡ 0) where
    past_phase : first (chart_checks s phase (length out)) ≡ first later
    past_phase = ap first checks_are ∙ first_passed (phase_checks s phase) later (phase_numbered s phase) passes

    pub call_no_room : length out < 2 * point_count (sheet_of s) → Called (Err Room) out
    unfolding room_wrong number_of
    call_no_room h = refused_by Room (past_phase ∙ first_here (check 9 (room_wrong (sheet_of s) (length out))) (frame_checks (sheet_of s) phase) (lt-ltb _ _ h))

    pub call_passes : 2 * point_count (sheet_of s) ≤ length out → Passed s phase out
    unfolding room_wrong
    call_passes h = record { passes = passes; room_right = le-ltb _ _ h }

-- ---- a sheet that reads

pub rings_few : (s : List ℕ) {m : ℕ} → first (layout_checks s ++ content_checks (sheet_of s)) ≡ 0 → m ≡ ring_count s → m ≤ 16
rings_few s reads q = omega (arith, q, (checked s reads).layout.rings_most)

-- the fronts of lists with room for N points and 16 rings, cut to just its points and rings
pub fits_of : (s : List ℕ) (N : ℕ) (x : Point) {n m : ℕ} → first (layout_checks s ++ content_checks (sheet_of s)) ≡ 0 → n ≡ point_count (sheet_of s) → m ≡ ring_count s → point_count (sheet_of s) ≤ N
    → fitting (sheet_of s) (length (take n (replicate N x))) (length {A = ℕ} (take m (replicate 16 0))) ≡ true
fits_of s N x {n} {m} reads p q h =
    let points = length_front n N x (omega (arith, p, h)) ∙ p in
    let rings = length_front {A = ℕ} m 16 0 (rings_few s reads q) ∙ q ∙ sym (ring_number s) in
    is_fitting (sheet_of s) _ _ points rings (omega (arith, points, points_most s reads))

-- ---- a call that passes the checks down to 9

module _ {s : List ℕ} {phase : ℕ} {out : List Float} (p : Passed s phase out) where
  left : first (chart_checks s phase (length out)) ≡ first (frame_checks (sheet_of s) phase)
  left = past_phase s phase out p.passes ∙ first_later (check 9 (room_wrong (sheet_of s) (length out))) (frame_checks (sheet_of s) phase) p.room_right

  pub call_refused : (r : Refusal) → number_of r ≡ first (frame_checks (sheet_of s) phase) → Called s phase out (Err r) out
  call_refused r e = refused_by s phase out r (left ∙ sym e)

  module _ (passes : first (frame_checks (sheet_of s) phase) ≡ 0) where
    none : first (chart_checks s phase (length out)) ≡ 0
    none = left ∙ passes

    -- the points that are written
    written_is : {ps : List Point} → ps ≡ flatten (moved_rings (sheet_of s) phase) → over (flat (map (written_point phase) ps)) out ≡ written_over s phase out (sheet_of s)
    unfolding written room_wrong
    written_is {ps} x =
        let w = flat (map (written_point phase) (flatten (moved_rings (sheet_of s) phase))) in
        let points : flat (map (written_point phase) ps) ≡ w = ap (λ (qs : List Point). flat (map (written_point phase) qs)) x in
        let long : length w ≡ 2 * point_count (sheet_of s) = length_flat (map (written_point phase) (flatten (moved_rings (sheet_of s) phase))) ∙ ap (λ (n : ℕ). 2 * n) (length-map (flatten (moved_rings (sheet_of s) phase)) (written_point phase) ∙ moved_points s phase) in
        ap (λ (ys : List Float). over ys out) points ∙ over_room w out (omega (arith, long, ltb-false (length out) (2 * point_count (sheet_of s)) p.room_right))

    pub call_answered : {ps : List Point} {after : List Float} (v : Values) {f : Frame} {c : Candidate} → ps ≡ flatten (moved_rings (sheet_of s) phase) → after ≡ over (flat (map (written_point phase) ps)) out
        → f ≡ frame (sheet_of s) phase → c ≡ chosen (sheet_of s) phase → values_numbers v ≡ answered f phase c → Called s phase out (Ok v) after
    call_answered v x a e d q =
        ap₂ charted
        (paper_ok values_numbers v ∙ q ∙ ap₂ (λ (f : Frame) (c : Candidate). answered f phase c) e d ∙ sym (chart_numbers s phase out ∙ settled_none (first (chart_checks s phase (length out))) (answered (frame (sheet_of s) phase) phase (chosen (sheet_of s) phase)) none))
        (a ∙ written_is x ∙ sym (chart_points s phase out ∙ ap (λ (b : Bool). cond b (written_over s phase out (sheet_of s)) out) (eq-eqb _ 0 none)))
