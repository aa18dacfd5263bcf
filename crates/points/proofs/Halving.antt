-- A column further on, found by halves, else column i itself: it is not before column i, and what is found passes the
-- test.
use mathlib.Core.Path.{◌≡◌, refl, subst}
use mathlib.Core.Logic.{◌⊎◌, inl, inr}
use mathlib.Core.Bool.{Bool, true, false, cond}
use mathlib.Core.List.{List, [], ◌∷◌}
use Prim.Native.Nat.{ℕ, suc, ◌+◌, ◌-◌, ◌<◌, ◌≤◌}
use native.Mathlib.Omega.{arith}
use borrow.Author.Tests.{le-leb, lt-leb}
use lib.Dec.{leb}
use lib.ListN.{length, get_or, drop, drop_of_length-le}
use lib.Seq.{drop-cons}
use Rattle.std.proofs.Common.{map, filter, Option, Some, None}
use Rattle.std.specs.List.{find}
use Rattle.std.specs.Option.{unwrap_or}
use Rattle.points.specs.Columns.{further, columns_ahead}

module _ (test : ℕ → Bool) (i : ℕ) where
  -- ---- the search: what is found of the columns that are left is what is found of all

  module _ (steps : List ℕ) (k : ℕ) {whole : Option ℕ} (left : find test (further i (drop k steps)) ≡ whole) where
    abbrev way : ℕ
    way = get_or steps k 0

    asked : k < length steps → way ≤ 31 - i → cond (test (i + way)) (Some (i + way)) (find test (further i (drop (k + 1) steps))) ≡ whole
    unfolding further
    asked more h = let e : k + 1 ≡ suc k = omega arith in subst (λ (found : Option ℕ). found ≡ whole) (rw (e, drop-cons steps k 0, le-leb way (31 - i) h) refl) left

    pub held_here : k < length steps → way ≤ 31 - i → true ≡ test (i + way) → Some (i + way) ≡ whole
    held_here more h t = rw (← asked more h, ← t) refl

    pub not_here : k < length steps → way ≤ 31 - i → false ≡ test (i + way) → find test (further i (drop (k + 1) steps)) ≡ whole
    not_here more h t = rw (← asked more h, ← t) refl

    pub past_last : k < length steps → 31 - i < way → find test (further i (drop (k + 1) steps)) ≡ whole
    unfolding further
    past_last more h = let e : k + 1 ≡ suc k = omega arith in subst (λ (found : Option ℕ). found ≡ whole) (rw (e, drop-cons steps k 0, lt-leb way (31 - i) h) refl) left

    pub held_nowhere : length steps ≤ k → None ≡ whole
    unfolding further
    held_nowhere h = subst (λ (found : Option ℕ). found ≡ whole) (rw (drop_of_length-le steps h) refl) left

  -- ---- what is found

  abbrev pub Reached : ℕ → Type 0
  Reached t = (i ≤ t) × ((t ≡ i) ⊎ (test t ≡ true))

  in_front : (n : ℕ) (left : Option ℕ) → i ≤ n → Reached (unwrap_or left i) → (b : Bool) → test n ≡ b → Reached (unwrap_or (cond b (Some n) left) i)
  in_front n left up rest true e = (up, inr e)
  in_front n left up rest false e = rest

  by_step : (step : ℕ) (steps : List ℕ) → Reached (unwrap_or (find test (further i steps)) i) → (fits : Bool) → Reached (unwrap_or (find test (map (λ step. i + step) (cond fits (step ∷ filter (λ step. leb step (31 - i)) steps) (filter (λ step. leb step (31 - i)) steps)))) i)
  unfolding further
  by_step step steps rest true = in_front (i + step) (find test (further i steps)) (omega arith) rest (test (i + step)) refl
  by_step step steps rest false = rest

  by_steps : (steps : List ℕ) → Reached (unwrap_or (find test (further i steps)) i)
  unfolding further
  by_steps [] = (omega arith, inl refl)
  by_steps (step ∷ steps) = by_step step steps (by_steps steps) (leb step (31 - i))

  pub column_reached : {found : Option ℕ} {t : ℕ} → found ≡ find test (columns_ahead i) → t ≡ unwrap_or found i → Reached t
  unfolding columns_ahead
  column_reached f e = rw (e, f) (by_steps ((31 - i) ∷ 16 ∷ 8 ∷ 4 ∷ 2 ∷ 1 ∷ []))
