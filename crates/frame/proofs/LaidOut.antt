-- The seam: lists of the sheet's size are laid out, and the frame stands where no check of 11 to 13 fails; and what a
-- caller reads in its answer.
use mathlib.Core.Path.{◌≡◌, refl, sym, ap, ◌∙◌}
use mathlib.Core.Bool.{Bool, true, false, not, cond}
use mathlib.Core.List.{List, flatten}
use Prim.Native.Nat.{ℕ, ◌≤◌}
use native.Mathlib.Omega.{arith}
use borrow.Author.Tests.{eq-eqb, eqb-true, le-leb, leb-true}
use lib.Dec.{eqb}
use lib.ListN.{length}
use Rattle.std.specs.Prelude.{Result, Ok, Err}
use Rattle.std.proofs.lemmas.Bool.{and_parts}
use Rattle.answers.specs.Outcome.{check, first, number_of, numbered, settle}
use Rattle.answers.specs.declared.refusal.Refusal.{Refusal}
use Rattle.answers.specs.declared.refusal.Refusal.TheVariants.{Room}
use Rattle.answers.proofs.Papers.{not_zero}
use Rattle.answers.proofs.Settled.{settle_ok, settle_err, ok_told, err_told}
use Rattle.answers.proofs.FirstCheck.{first_later}
use Rattle.sheet.specs.Content.{Point, Sheet}
use Rattle.frame.specs.Framing.{moved_rings, frame, point_count, join_checks}
use Rattle.frame.specs.Parts.{ends_from}
use Rattle.frame.specs.Seam.{fitting, laid_points, laid_ends, seam_checks, framed_of}
use Rattle.frame.specs.declared.framing.Frame.{Frame}

-- ---- lists of the sheet's size

pub record Fitting (s : Sheet) (points ends : ℕ) : Type 0 where
  pub points_are : points ≡ point_count s
  pub ends_are : ends ≡ length s.rings
  pub most : points ≤ 2176

pub fitting_is : (s : Sheet) (points ends : ℕ) → fitting s points ends ≡ true → Fitting s points ends
unfolding fitting
fitting_is s points ends e =
    let p = and_parts (eqb points (point_count s)) _ e in
    let q = and_parts (eqb ends (length s.rings)) _ p.1 in
    record { points_are = eqb-true points (point_count s) p.0; ends_are = eqb-true ends (length s.rings) q.0; most = leb-true points 2176 q.1 }

pub is_fitting : (s : Sheet) (points ends : ℕ) → points ≡ point_count s → ends ≡ length s.rings → points ≤ 2176 → fitting s points ends ≡ true
unfolding fitting
is_fitting s points ends p q m = rw (eq-eqb points (point_count s) p, eq-eqb ends (length s.rings) q, le-leb points 2176 m)

-- ---- the answer

module _ (s : Sheet) (phase : ℕ) where
  pub laid_points_lem : {fits : Bool} (points : List Point) → fits ≡ true → laid_points fits s phase points ≡ flatten (moved_rings s phase)
  unfolding laid_points
  laid_points_lem {fits} points e = rw e

  pub laid_ends_lem : {fits : Bool} (ends : List ℕ) → fits ≡ true → laid_ends fits s phase ends ≡ ends_from 0 (moved_rings s phase)
  unfolding laid_ends
  laid_ends_lem {fits} ends e = rw e

  -- lists of another size: 9, and they stay
  pub unlaid : {fits : Bool} {points : List Point} {ends : List ℕ} → fits ≡ false → (numbered (Err Room) ≡ framed_of fits s phase) × (points ≡ laid_points fits s phase points) × (ends ≡ laid_ends fits s phase ends)
  unfolding framed_of settle first seam_checks laid_points laid_ends numbered number_of
  unlaid {fits} {points} {ends} e = (rw e, rw e, rw e)

  framed_left : {fits : Bool} → fits ≡ true → framed_of fits s phase ≡ settle (first (join_checks s phase)) (frame s phase)
  unfolding framed_of seam_checks
  framed_left {fits} e = ap (λ (n : ℕ). settle n (frame s phase)) (first_later (check 9 (not fits)) (join_checks s phase) (rw e))

  pub framed_ready : {fits : Bool} → fits ≡ true → first (join_checks s phase) ≡ 0 → Ok (frame s phase) ≡ framed_of fits s phase
  framed_ready e h = sym (framed_left e ∙ settle_ok _ _ h)

  pub framed_refused : {fits : Bool} (r : Refusal) → fits ≡ true → number_of r ≡ first (join_checks s phase) → Err (number_of r) ≡ framed_of fits s phase
  framed_refused r e h = ap Err h ∙ sym (framed_left e ∙ settle_err _ _ (λ z. not_zero r (h ∙ z)))

  -- ---- what a caller reads in it

  module _ (fits : Bool) where
    framed_is : framed_of fits s phase ≡ settle (first (seam_checks fits s phase)) (frame s phase)
    unfolding framed_of
    framed_is = refl

    -- the frame, of a sheet that passes the joins
    pub told_ready : {r : Result Frame Refusal} (f : Frame) → numbered r ≡ framed_of fits s phase → r ≡ Ok f → (first (seam_checks fits s phase) ≡ 0) × (f ≡ frame s phase)
    told_ready f t k = ok_told (first (seam_checks fits s phase)) (frame s phase) f (t ∙ framed_is) k

    -- the first check that fails
    pub told_refused : {r : Result Frame Refusal} (refusal : Refusal) → numbered r ≡ framed_of fits s phase → r ≡ Err refusal → number_of refusal ≡ first (seam_checks fits s phase)
    told_refused refusal t k = err_told (first (seam_checks fits s phase)) (frame s phase) refusal (t ∙ framed_is) k

    -- where none fails the lists are of the sheet's size
    pub passed_fits : first (seam_checks fits s phase) ≡ 0 → fits ≡ true
    unfolding seam_checks first
    passed_fits e = by fits refl e
      where
        by : (b : Bool) → fits ≡ b → cond (not b) 9 (first (join_checks s phase)) ≡ 0 → fits ≡ true
        by true k e = k
        by false k e = absurd (omega (arith, e))
