-- The least distance to a ring's segments, and to those of many rings, whatever the distance, as long as none is -0: it
-- fits where the start does, it is no NaN where the start is none,
-- and it is the same for every order of the rings.
use mathlib.Core.Path.{◌≡◌, refl, sym, ◌∙◌}
use mathlib.Core.Bool.{not}
use mathlib.Core.List.Permᴰ
use mathlib.Core.List.{List, foldl, foldl-append, Permᴰ}
use lib.Dec.{T}
use lib.Ieee.{Float, binary64, fits, is_nan}
use Rattle.leaves.specs.Bounds.{smaller_of}
use Rattle.leaves.proofs.Choices.{Clear, smaller_keeps, smaller_number, smaller_swap}
use Rattle.leaves.proofs.Folds.{All, all_of, fold_keeps, fold_perm}
use Rattle.points.specs.Segments.{Between, segments}
use Rattle.clearance.specs.Clearance.{least_of}

-- ---- a fold whose steps keep P, whatever the elements

module _ {A S : Type 0} (step : S → A → S) (P : S → Type 0) (keeps : (s : S) (a : A) → P s → P (step s a)) where
  any : (xs : List A) → All (λ (a : A). Unit {0}) xs
  any = all_of (λ (a : A). Unit {0}) (λ a. tt)

  always : (xs : List A) (s : S) → P s → P (foldl step s xs)
  always xs = fold_keeps step P (λ (a : A). Unit {0}) (λ s a p q. keeps s a p) xs (any xs)

  always_perm : ((s : S) (a b : A) → P s → step (step s a) b ≡ step (step s b) a) → {xs ys : List A} → Permᴰ xs ys → (s : S) → P s → foldl step s xs ≡ foldl step s ys
  always_perm swaps {xs} d = fold_perm step P (λ (a : A). Unit {0}) (λ s a p q. keeps s a p) (λ s a b p q r. swaps s a b p) d (any xs)

-- ---- the least

-- with one segment more
abbrev pub least_step : {A : Type 0} → (Between A → Float) → Float → Between A → Float
least_step distance d s = smaller_of d (distance s)

-- over a ring's segments
pub least_fold : {A : Type 0} (distance : Between A → Float) (d : Float) (ring : List A) → least_of distance d ring ≡ foldl (least_step distance) d (segments ring)
unfolding least_of
least_fold distance d ring = refl

abbrev Held : Float → Type 0
Held d = T (fits binary64 d)

abbrev Number : Float → Type 0
Number d = T (not (is_nan d))

module _ {A : Type 0} (distance : Between A → Float) (clear : (s : Between A) → Clear binary64 (distance s)) where
  step_held : (d : Float) (s : Between A) → Held d → Held (least_step distance d s)
  step_held d s h = smaller_keeps Held d (distance s) h (clear s).held

  -- ---- one ring

  pub least_held : (d : Float) (ring : List A) → T (fits binary64 d) → T (fits binary64 (least_of distance d ring))
  unfolding least_of
  least_held d ring = always (least_step distance) Held step_held (segments ring) d

  pub least_number : (d : Float) (ring : List A) → T (not (is_nan d)) → T (not (is_nan (least_of distance d ring)))
  unfolding least_of
  least_number d ring = always (least_step distance) Number (λ d s. smaller_number d (distance s)) (segments ring) d

  pub least_swap : (d : Float) (a b : List A) → T (fits binary64 d) → least_of distance (least_of distance d a) b ≡ least_of distance (least_of distance d b) a
  unfolding least_of
  least_swap d a b h =
      sym (foldl-append (least_step distance) d (segments a) (segments b))
      ∙ always_perm (least_step distance) Held step_held (λ d s t h. smaller_swap binary64 d (distance s) (distance t) h (clear s) (clear t)) (Permᴰ.append_comm (segments a) (segments b)) d h
      ∙ foldl-append (least_step distance) d (segments b) (segments a)

  -- ---- many rings

  pub rings_held : (rings : List (List A)) (s : Float) → T (fits binary64 s) → T (fits binary64 (foldl (least_of distance) s rings))
  rings_held = always (least_of distance) Held least_held

  pub rings_number : (rings : List (List A)) (s : Float) → T (not (is_nan s)) → T (not (is_nan (foldl (least_of distance) s rings)))
  rings_number = always (least_of distance) Number least_number

  pub rings_perm : {rings rings' : List (List A)} → Permᴰ rings rings' → (s : Float) → T (fits binary64 s) → foldl (least_of distance) s rings ≡ foldl (least_of distance) s rings'
  rings_perm = always_perm (least_of distance) Held least_held least_swap
