-- The chart's outcome, and the tables: the chart's, the rows of the layout, then those of what the bytes say; and what
-- every table has in common, the rows down to a number, and those behind.
use mathlib.Core.Path.{◌≡◌, refl, sym, ap, ◌∙◌}
use mathlib.Core.Bool.{Bool, true, false, cond}
use mathlib.Core.List.{List, [], ◌∷◌, ◌++◌, append_assoc}
use Prim.Native.Nat.{ℕ, zero, suc, ◌<◌}
use native.Mathlib.Decide.{ℕ_discrete}
use native.Mathlib.Omega.{arith}
use lib.Dec.{eqb}
use lib.ListN.{length, drop}
use lib.Ieee.{Float}
use Rattle.leaves.proofs.Folds.{All}
use Rattle.sheet.specs.Content.{Sheet}
use Rattle.sheet.specs.Layout.{sheet_of}
use Rattle.answers.specs.Outcome.{Check, check, first, Numbers, settled}
use Rattle.sheet.specs.Checks.{layout_checks, content_checks}
use Rattle.answers.proofs.FirstCheck.{Lacks, Numbered, lacks_first, first_refused}
use Rattle.chart.specs.Chart.{answered, chosen, outcome, room_wrong, none_clear, frame_checks, chart_checks, chart_of}
use Rattle.frame.specs.Framing.{frame, moved_rings, phase_wrong}
use Rattle.points.specs.Written.{written}
use Rattle.chart.specs.Demand.{Passes, down_to}
use Rattle.answers.proofs.Settled.{settled_status}

-- ---- the answer

pub answered_status : (s : Sheet) (phase : ℕ) → (answered (frame s phase) phase (chosen s phase)).status ≡ 0
unfolding answered
answered_status s phase = refl

-- ---- the table

-- the rows behind the layout's
unfoldable pub later_checks : Sheet → ℕ → ℕ → List Check
unfolding content_checks phase_wrong room_wrong frame_checks
later_checks s phase room = content_checks s ++ check 8 (phase_wrong s phase) ∷ check 9 (room_wrong s room) ∷ frame_checks s phase

pub chart_checks_lem : (s : List ℕ) (phase room : ℕ) → chart_checks s phase room ≡ layout_checks s ++ later_checks (sheet_of s) phase room
unfolding chart_checks later_checks layout_checks
chart_checks_lem s phase room = refl

-- ---- the rows of a table down to the one of a number, and those behind

-- the rows of cs down to n, and then these, are the table
abbrev pub Parted : ℕ → List Check → List Check → Type 0
Parted n cs later = cs ≡ down_to n cs ++ later

pub down_numbered : (n : ℕ) (cs : List Check) → Numbered cs → Numbered (down_to n cs)
unfolding down_to
down_numbered n [] h = tt
down_numbered n (c ∷ cs) h = (h.0, by (eqb c.number n) (down_numbered n cs h.1))
  where
    by : (b : Bool) → Numbered (down_to n cs) → Numbered (cond b [] (down_to n cs))
    by true k = tt
    by false k = k

-- rows without the number n stand before those down to it
pub down_behind : (n : ℕ) (xs cs : List Check) → Lacks n xs → down_to n (xs ++ cs) ≡ xs ++ down_to n cs
unfolding down_to
down_behind n [] cs h = refl
down_behind n (c ∷ xs) cs h = rw h.0 (ap (λ (ys : List Check). c ∷ ys) (down_behind n xs cs h.1))

pub parted_behind : (n : ℕ) (xs cs later : List Check) → Lacks n xs → Parted n cs later → Parted n (xs ++ cs) later
parted_behind n xs cs later h parts =
    ap (λ (ys : List Check). xs ++ ys) parts ∙ sym (append_assoc xs (down_to n cs) later) ∙ ap (λ (ys : List Check). ys ++ later) (sym (down_behind n xs cs h))

positive : (n : ℕ) → (n ≡ 0 → ⊥) → 0 < n
positive zero h = absurd (h refl)
positive (suc n) h = omega arith

module _ (n : ℕ) (cs later : List Check) (parts : Parted n cs later) where
  -- where one of the rows down to n fails, the first that does is the table's
  pub first_above : (Passes n cs → ⊥) → first cs ≡ first (down_to n cs)
  first_above h = ap first parts ∙ first_refused (down_to n cs) later h

  -- they pass where the table's first is 0, or a number that none of them has
  pub first_passes : (m : ℕ) → (0 < m → Lacks m (down_to n cs)) → first cs ≡ m → Passes n cs
  first_passes m lacks e = by (ℕ_discrete (first (down_to n cs)) 0)
    where
      by : Dec (first (down_to n cs) ≡ 0) → Passes n cs
      by (yes z) = z
      by (no k) =
          let same = sym (first_above k) ∙ e in
          let some : 0 < m = positive m (λ z. k (same ∙ z)) in
          absurd (lacks_first m (down_to n cs) some (lacks some) same)

-- ---- checks 11 to 14

pub frame_numbered : (s : Sheet) (phase : ℕ) → Numbered (frame_checks s phase)
unfolding frame_checks
frame_numbered s phase = omega arith

-- what holds of the rows' numbers
pub frame_all : (P : ℕ → Type 0) (s : Sheet) (phase : ℕ) → P 11 × P 12 × P 13 × P 14 → All (λ (c : Check). P c.number) (frame_checks s phase)
unfolding frame_checks
frame_all P s phase h = (h.0, (h.1, (h.2, (h.3, tt))))

-- before a call's own rows behind 14
module _ (s : Sheet) (phase : ℕ) (later : List Check) where
  pub frame_parted : Parted 13 (frame_checks s phase ++ later) (check 14 (none_clear (chosen s phase)) ∷ later)
  unfolding down_to frame_checks
  frame_parted = refl

  pub frame_down_all : (P : ℕ → Type 0) → P 11 × P 12 × P 13 → All (λ (c : Check). P c.number) (down_to 13 (frame_checks s phase ++ later))
  unfolding down_to frame_checks
  frame_down_all P h = (h.0, (h.1, (h.2, tt)))

-- ---- the chart

module _ (s : List ℕ) (phase : ℕ) (out : List Float) where
  pub chart_numbers : (chart_of s phase out).numbers ≡ settled (first (chart_checks s phase (length out))) (answered (frame (sheet_of s) phase) phase (chosen (sheet_of s) phase))
  unfolding chart_of outcome
  chart_numbers = refl

  -- the list afterwards: the moved points over its front, or as it was
  abbrev pub written_over : Sheet → List Float
  written_over z = written phase (moved_rings z phase) ++ drop (length (written phase (moved_rings z phase))) out

  pub chart_points : (chart_of s phase out).points ≡ cond (eqb (first (chart_checks s phase (length out))) 0) (written_over (sheet_of s)) out
  unfolding chart_of outcome
  chart_points = refl

  -- the status is the first check that fails, or 0
  pub chart_status : (chart_of s phase out).numbers.status ≡ first (chart_checks s phase (length out))
  chart_status =
      ap (λ (n : Numbers). n.status) chart_numbers
      ∙ settled_status (first (chart_checks s phase (length out))) (answered (frame (sheet_of s) phase) phase (chosen (sheet_of s) phase)) (answered_status (sheet_of s) phase)
