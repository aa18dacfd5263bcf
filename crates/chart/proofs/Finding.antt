-- The grid point of a sheet by the seam: what the seam refuses is refused so, and behind it row 14 tells whether the
-- chosen grid point is clear; and what a caller reads in the answer.
use mathlib.Core.Bool.{Bool, true, false, not}
use mathlib.Core.List.{[], ◌∷◌}
use mathlib.Core.Path.{◌≡◌, refl, sym, ap, ◌∙◌}
use Prim.Native.Nat.{ℕ}
use native.Mathlib.Omega.{arith}
use lib.Ieee.{binary64, of_bits, lt}
use Rattle.leaves.specs.Constants.{clearance_limit}
use Rattle.leaves.proofs.ConstantBits.{clearance_limit_bits}
use Rattle.std.specs.Prelude.{Result, Ok, Err}
use Rattle.answers.specs.Outcome.{check, first, number_of, numbered, settle}
use Rattle.answers.specs.declared.refusal.Refusal.{Refusal}
use Rattle.answers.specs.declared.refusal.Refusal.TheVariants.{NoneClear}
use Rattle.answers.proofs.Papers.{not_zero}
use Rattle.answers.proofs.Settled.{settle_err, ok_told, err_told}
use Rattle.answers.proofs.FirstCheck.{Numbered, first_passed, first_refused, first_here, first_later}
use Rattle.sheet.specs.Content.{Sheet}
use Rattle.frame.specs.Framing.{frame, join_checks}
use Rattle.frame.specs.Seam.{seam_checks}
use Rattle.search.specs.declared.candidate.Candidate.{Candidate}
use Rattle.chart.specs.Chart.{chosen, none_clear, frame_checks}
use Rattle.chart.specs.Found.{find_checks, found, found_of}
use Rattle.chart.specs.declared.grid_point.Found.{Found}

-- the code's literal is the limit
pub above_limit : {x y : Candidate} {b : Bool} → x ≡ y → lt (of_bits binary64 0x3F847AE147AE147B) x.clearance ≡ b → lt clearance_limit y.clearance ≡ b
above_limit {x} {y} e h = ap (λ (z : Candidate). lt clearance_limit z.clearance) (sym e) ∙ rw clearance_limit_bits h

module _ (fits : Bool) (s : Sheet) (phase : ℕ) where
  seam_numbered : Numbered (seam_checks fits s phase)
  unfolding seam_checks join_checks
  seam_numbered = omega arith

  found_by : (n : ℕ) → first (find_checks fits s phase) ≡ n → settle n (found (frame s phase) (chosen s phase)) ≡ found_of fits s phase
  unfolding found_of
  found_by n e = ap (λ (m : ℕ). settle m (found (frame s phase) (chosen s phase))) (sym e)

  -- ---- the answer

  refused_is : (r : Refusal) → Err (number_of r) ≡ settle (number_of r) (found (frame s phase) (chosen s phase))
  refused_is r = sym (settle_err (number_of r) _ (not_zero r))

  -- the seam refuses
  pub found_refused : (r : Refusal) → number_of r ≡ first (seam_checks fits s phase) → Err (number_of r) ≡ found_of fits s phase
  unfolding find_checks frame_checks seam_checks
  found_refused r e =
      refused_is r
      ∙ found_by (number_of r) (first_refused (seam_checks fits s phase) (check 14 (none_clear (chosen s phase)) ∷ []) (λ z. not_zero r (e ∙ z)) ∙ sym e)

  module _ (passes : first (seam_checks fits s phase) ≡ 0) where
    left : first (find_checks fits s phase) ≡ first (check 14 (none_clear (chosen s phase)) ∷ [])
    unfolding find_checks frame_checks seam_checks
    left = first_passed (seam_checks fits s phase) (check 14 (none_clear (chosen s phase)) ∷ []) seam_numbered passes

    -- no grid point is clear
    pub found_14 : lt clearance_limit (chosen s phase).clearance ≡ false → Err (number_of NoneClear) ≡ found_of fits s phase
    unfolding none_clear number_of
    found_14 e = refused_is NoneClear ∙ found_by 14 (left ∙ first_here (check 14 (none_clear (chosen s phase))) [] (rw e))

    pub found_chosen : lt clearance_limit (chosen s phase).clearance ≡ true → Ok (found (frame s phase) (chosen s phase)) ≡ found_of fits s phase
    unfolding none_clear settle first
    found_chosen e = found_by 0 (left ∙ first_later (check 14 (none_clear (chosen s phase))) [] (rw e))

  -- ---- what a caller reads in it, whose lists are of the sheet's size

  checks_left : fits ≡ true → first (find_checks fits s phase) ≡ first (frame_checks s phase)
  unfolding find_checks
  checks_left e = first_later (check 9 (not fits)) (frame_checks s phase) (rw e)

  found_is : found_of fits s phase ≡ settle (first (find_checks fits s phase)) (found (frame s phase) (chosen s phase))
  unfolding found_of
  found_is = refl

  -- the first of 11 to 14 that fails
  pub told_refused : {r : Result Found Refusal} (refusal : Refusal) → fits ≡ true → numbered r ≡ found_of fits s phase → r ≡ Err refusal → number_of refusal ≡ first (frame_checks s phase)
  told_refused refusal e t k = err_told (first (find_checks fits s phase)) _ refusal (t ∙ found_is) k ∙ checks_left e

  -- the chosen grid point, where none fails
  pub told_chosen : {r : Result Found Refusal} (x : Found) → fits ≡ true → numbered r ≡ found_of fits s phase → r ≡ Ok x → (first (frame_checks s phase) ≡ 0) × (x ≡ found (frame s phase) (chosen s phase))
  told_chosen x e t k =
      let p = ok_told (first (find_checks fits s phase)) _ x (t ∙ found_is) k in
      (sym (checks_left e) ∙ p.0, p.1)
