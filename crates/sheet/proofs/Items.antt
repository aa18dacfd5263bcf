-- What the iterators over blocks, coedges and points have left: the first item, and what is left behind it.
use mathlib.Core.Path.{◌≡◌, refl, sym, ap, ◌∙◌}
use mathlib.Core.Bool.{Bool, ◌||◌}
use mathlib.Core.List.{List, [], ◌∷◌, foldl}
use Prim.Native.Nat.{ℕ, zero, suc, ◌+◌, ◌-◌, ◌*◌, ◌≤◌}
use native.Mathlib.Omega.{arith}
use lib.Ieee.{Float}
use lib.ListN.{take, drop}
use lib.Seq.{drop-drop}
use Rattle.std.specs.List.{list_any, range_with_len, fold}
use Rattle.answers.specs.Lists.{any_of}
use Rattle.sheet.specs.Content.{point}
use Rattle.sheet.specs.Layout.{number, numbers, points, cut}

-- ---- what is left

module _ (size : List ℕ → ℕ) where
  pub cut_more : (n m : ℕ) (s : List ℕ) → 1 ≤ n → m ≡ n - 1 → cut size n s ≡ take (size s) s ∷ cut size m (drop (size s) s)
  unfolding cut
  cut_more n m s h e = let next : n ≡ suc m = omega arith in rw next

  pub cut_none : (n : ℕ) (s : List ℕ) → (1 ≤ n → ⊥) → cut size n s ≡ []
  unfolding cut
  cut_none n s h = let none : n ≡ 0 = omega arith in rw none

pub points_more : (n m : ℕ) (s : List ℕ) → 1 ≤ n → m ≡ n - 1 → points n s ≡ point (number s) (number (drop 8 s)) ∷ points m (drop 16 s)
unfolding points
points_more n m s h e = let next : n ≡ suc m = omega arith in rw next

pub points_none : (n : ℕ) (s : List ℕ) → (1 ≤ n → ⊥) → points n s ≡ []
unfolding points
points_none n s h = let none : n ≡ 0 = omega arith in rw none

-- ---- tests of any of them

-- numbers that are read in equal steps
pub any_number : (test : Float → Bool) (s : List ℕ) (from n k : ℕ) → list_any (λ (i : ℕ). test (number (drop (from + 8 * i) s))) (range_with_len k n) ≡ any_of test (numbers n (drop (from + 8 * k) s))
unfolding numbers
any_number test s from zero k = refl
any_number test s from (suc n) k =
    let next : from + 8 * k + 8 ≡ from + 8 * (k + 1) = omega arith in
    ap (λ (b : Bool). test (number (drop (from + 8 * k) s)) || b)
    (any_number test s from n (k + 1) ∙ ap (λ (l : List ℕ). any_of test (numbers n l)) (ap (λ (i : ℕ). drop i s) (sym next) ∙ sym (drop-drop 8 (from + 8 * k) s)))

-- ---- a fold over them

pub folded : {S A : Type 0} (step : S → A → S) (s : S) (xs : List A) → fold step s xs ≡ foldl step s xs
folded step s [] = refl
folded step s (x ∷ xs) = folded step (step s x) xs
