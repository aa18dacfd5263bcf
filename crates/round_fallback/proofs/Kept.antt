-- The corner angles that are kept, over the front of the list in which all stand in order: a step at a time.
use mathlib.Core.Path.{◌≡◌, refl}
use mathlib.Core.Bool.{true, false}
use mathlib.Core.List.{List, [], ◌∷◌, ◌++◌, append-nil, append_assoc}
use Prim.Native.Nat.{ℕ, ◌+◌, ◌≤◌, ◌<◌}
use native.Mathlib.Numerals.{add-one}
use native.Mathlib.Omega.{arith}
use lib.Ieee.{Float, nan}
use lib.ListN.{length, get_or, take, drop, set, drop_of_length-le}
use lib.Seq.{drop-cons, take-suc-set}
use Rattle.std.proofs.lemmas.List.{drop-set-lt}
use Rattle.round_fallback.specs.Cylinder.{is_near, kept_after, kept_of}

pub kept_none : (xs : List Float) → length xs ≡ 0 → xs ≡ kept_of xs
unfolding kept_of
kept_none [] h = refl
kept_none (x ∷ xs) h = absurd (omega arith)

-- the first is
pub kept_first : (xs : List Float) → 0 < length xs → take 1 xs ++ kept_after (get_or xs 0 nan) (drop 1 xs) ≡ kept_of xs
unfolding kept_of
kept_first [] h = absurd (omega arith)
kept_first (x ∷ xs) h = refl

module _ (xs : List Float) (last : Float) (count k : ℕ) (h : k < length xs) where
  -- one that is near the last one is not
  pub kept_near : is_near (get_or xs k nan) last ≡ true → take count xs ++ kept_after last (drop k xs) ≡ take count xs ++ kept_after last (drop (k + 1) xs)
  unfolding kept_after
  kept_near near = rw (add-one, drop-cons xs k nan h, near)

  -- another is, and stands behind those that were
  pub kept_next : count ≤ k → is_near (get_or xs k nan) last ≡ false
      → take count xs ++ kept_after last (drop k xs) ≡ take (count + 1) (set xs count (get_or xs k nan)) ++ kept_after (get_or xs k nan) (drop (k + 1) (set xs count (get_or xs k nan)))
  unfolding kept_after
  kept_next room far =
      let r : count < length xs = omega arith in
      let s : count < k + 1 = omega arith in
      rw (drop-set-lt, add-one k, add-one count, take-suc-set xs count (get_or xs k nan) r, append_assoc, drop-cons xs k nan h, far)

pub kept_end : (xs : List Float) (last : Float) (count k : ℕ) → length xs ≤ k → take count xs ++ kept_after last (drop k xs) ≡ take count xs
unfolding kept_after
kept_end xs last count k h = rw (drop_of_length-le xs h) (append-nil (take count xs))
