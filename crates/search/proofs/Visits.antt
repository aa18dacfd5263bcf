-- The search along the grid, one grid point after the other: what is left of a column from j on, and of the grid from i
-- on; that a grid point passes the candidate on, counted where it is covered;
-- and that a clearance may be given as the larger of itself and the candidate's.
use mathlib.Core.Path.{◌≡◌, refl, sym, ap, fun_ext, ◌∙◌}
use mathlib.Core.Bool.{Bool, true, false, cond}
use mathlib.Core.List.{foldl}
use Prim.Native.Nat.{ℕ, zero, suc, ◌+◌, ◌-◌, ◌<◌, ◌≤◌}
use native.Mathlib.Omega.{arith}
use lib.Dec.{T}
use lib.Ieee.{Float, lt}
use Rattle.leaves.specs.Bounds.{larger_of}
use Rattle.leaves.proofs.Choices.{larger_by_test}
use Rattle.leaves.proofs.Order.{float_lt_irrefl}
use Rattle.points.specs.Grid.{up_from, lines}
use Rattle.search.specs.Search.{start, better, counted, counted_point, tallied, visit, column, search}
use Rattle.search.specs.declared.candidate.Candidate.{Candidate}
use Rattle.points.proofs.GridOrder.{up_step, up_end}

-- ---- the larger of two clearances

not_so : (t : Bool) → (T t → ⊥) → t ≡ false
not_so true h = absurd (h tt)
not_so false h = refl

not_less : (x : Float) → lt x x ≡ false
not_less x = not_so (lt x x) (float_lt_irrefl x)

module _ (i j : ℕ) (x : Float) (best : Candidate) where
  by_test : (t : Bool) → lt best.clearance x ≡ t → better i j (larger_of best.clearance x) best ≡ better i j x best
  unfolding better
  by_test true e = rw (larger_by_test best.clearance x, e, e)
  by_test false e = rw (larger_by_test best.clearance x, e, not_less best.clearance)

  pub better_larger : better i j (larger_of best.clearance x) best ≡ better i j x best
  better_larger = by_test (lt best.clearance x) refl

  clearance_by_test : (t : Bool) → lt best.clearance x ≡ t → (better i j x best).clearance ≡ larger_of best.clearance x
  unfolding better
  clearance_by_test true e = rw (larger_by_test best.clearance x, e)
  clearance_by_test false e = rw (larger_by_test best.clearance x, e)

  pub better_clearance : (better i j x best).clearance ≡ larger_of best.clearance x
  better_clearance = clearance_by_test (lt best.clearance x) refl

  count_by_test : (t : Bool) → lt best.clearance x ≡ t → (better i j x best).count ≡ best.count
  unfolding better
  count_by_test true e = rw e
  count_by_test false e = rw e

  better_count : (better i j x best).count ≡ best.count
  better_count = count_by_test (lt best.clearance x) refl

-- ---- a grid point

module _ (covers : ℕ → ℕ → Bool) (clears : ℕ → ℕ → Float) where
  module _ (i j : ℕ) (best : Candidate) where
    -- by one test
    pub visit_is : visit covers clears i best j ≡ cond (covers i j) (counted (better i j (clears i j) best)) best
    unfolding visit tallied
    visit_is = by (covers i j)
      where
        by : (b : Bool) → cond b (counted (cond b (better i j (clears i j) best) best)) (cond b (better i j (clears i j) best) best) ≡ cond b (counted (better i j (clears i j) best)) best
        by true = refl
        by false = refl

    pub visit_covered : covers i j ≡ true → visit covers clears i best j ≡ counted (better i j (clears i j) best)
    visit_covered e = visit_is ∙ rw e

    pub visit_passed : covers i j ≡ false → visit covers clears i best j ≡ best
    visit_passed e = visit_is ∙ rw e

    visited_by_test : (t : Bool) → covers i j ≡ t → (visit covers clears i best j).count ≤ best.count + 1
    unfolding counted
    visited_by_test true e = rw (visit_covered e) (omega (arith, better_count i j (clears i j) best))
    visited_by_test false e = rw (visit_passed e) (omega arith)

    pub visit_count : (visit covers clears i best j).count ≤ best.count + 1
    visit_count = visited_by_test (covers i j) refl

  -- ---- the rest of a column, and of the grid

  -- the column i from j on
  abbrev pub column_from : ℕ → Candidate → ℕ → Candidate
  column_from i best j = foldl (visit covers clears i) best (up_from j (32 - j))

  pub column_start : (i : ℕ) (best : Candidate) → column_from i best 1 ≡ column covers clears best i
  unfolding column lines
  column_start i best = refl

  pub column_step : (i : ℕ) (best : Candidate) (j : ℕ) → j < 32 → column_from i best j ≡ column_from i (visit covers clears i best j) (j + 1)
  column_step i best j h = rw (up_step j 32 h)

  pub column_end : (i : ℕ) (best : Candidate) (j : ℕ) → 32 ≤ j → column_from i best j ≡ best
  column_end i best j h = rw (up_end j 32 h)

  -- the grid from i on
  abbrev pub search_from : Candidate → ℕ → Candidate
  search_from best i = foldl (column covers clears) best (up_from i (32 - i))

  pub search_start : search_from start 1 ≡ search covers clears
  unfolding search lines
  search_start = refl

  pub search_step : (best : Candidate) (i : ℕ) → i < 32 → search_from best i ≡ search_from (column covers clears best i) (i + 1)
  search_step best i h = rw (up_step i 32 h)

  pub search_end : (best : Candidate) (i : ℕ) → 32 ≤ i → search_from best i ≡ best
  search_end best i h = rw (up_end i 32 h)

-- ---- a column turns on the clearances of its own grid points

pub column_same : (covers : ℕ → ℕ → Bool) (clears clears' : ℕ → ℕ → Float) (i : ℕ) → ((j : ℕ) → clears i j ≡ clears' i j) → (best : Candidate) → column covers clears best i ≡ column covers clears' best i
unfolding column visit
column_same covers clears clears' i e best =
    ap (λ (clear : ℕ → Float). foldl (λ (best : Candidate) (j : ℕ). tallied (counted_point (covers i j) (clear j)) (cond (covers i j) (better i j (clear j) best) best)) best lines) (fun_ext e)

-- ---- the search turns on what is covered in the grid alone

up_same : {S : Type 0} (f g : S → ℕ → S) (n i : ℕ) → ((s : S) (j : ℕ) → i ≤ j → j < i + n → f s j ≡ g s j) → (s : S) → foldl f s (up_from i n) ≡ foldl g s (up_from i n)
unfolding up_from
up_same f g zero i e s = refl
up_same {S} f g (suc n) i e s = ap (λ (t : S). foldl f t (up_from (i + 1) n)) (e s i (omega arith) (omega arith)) ∙ up_same f g n (i + 1) (λ t j h k. e t j (omega arith) (omega arith)) (g s i)

pub search_same : (covers covers' : ℕ → ℕ → Bool) (clears : ℕ → ℕ → Float) → ((i j : ℕ) → 1 ≤ i → i ≤ 31 → 1 ≤ j → j ≤ 31 → covers i j ≡ covers' i j) → search covers clears ≡ search covers' clears
unfolding search column lines
search_same covers covers' clears e =
    up_same (column covers clears) (column covers' clears) 31 1
    (λ best i h k.
    up_same (visit covers clears i) (visit covers' clears i) 31 1
    (λ s j l m. visit_is covers clears i j s ∙ ap (λ (b : Bool). cond b (counted (better i j (clears i j) s)) s) (e i j h (omega arith) l (omega arith)) ∙ sym (visit_is covers' clears i j s))
    best)
    start
