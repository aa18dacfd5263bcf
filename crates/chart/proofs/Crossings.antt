-- Rule 7's crossings are a sum over the rings: those of two groups add, and the order of the rings changes nothing, nor
-- what is covered.
use mathlib.Core.Path.{◌≡◌, refl, sym, ap, ◌∙◌}
use mathlib.Core.Bool.{Bool, true, false, not, cond}
use mathlib.Core.List.{List, [], ◌∷◌, foldl, Permᴰ}
use Prim.Native.Nat.{ℕ, suc}
use lib.IntN.{ℤ, pos, ◌+ℤ◌, +ℤ_assoc, +ℤ_comm}
use Rattle.leaves.proofs.Folds.{fold_perm_always}
use Rattle.sheet.specs.Content.{Point}
use Rattle.coverage.specs.Coverage.{crossing, crossings, covered_by, covered}
use Rattle.chart.specs.Demand.{picked, others}
use Rattle.frame.specs.declared.framing.Frame.{Frame}

-- ---- sums

-- the last two of three change places
swap_last : (a x y : ℤ) → a +ℤ x +ℤ y ≡ a +ℤ y +ℤ x
swap_last a x y = +ℤ_assoc a x y ∙ ap (λ (n : ℤ). a +ℤ n) (+ℤ_comm x y) ∙ sym (+ℤ_assoc a y x)

module _ {A : Type 0} (part : A → ℤ) where
  abbrev sum : ℤ → List A → ℤ
  sum n xs = foldl (λ (n : ℤ) (x : A). n +ℤ part x) n xs

  -- over the picked ones, and over the others
  sum_groups : (d : ℕ → Bool) (xs : List A) (a b : ℤ) → sum (a +ℤ b) xs ≡ sum a (picked d xs) +ℤ sum b (picked (others d) xs)
  unfolding picked
  sum_groups d [] a b = refl
  sum_groups d (x ∷ xs) a b = by (d 0) (sum_groups (λ (n : ℕ). d (suc n)) xs (a +ℤ part x) b) (sum_groups (λ (n : ℕ). d (suc n)) xs a (b +ℤ part x))
    where
      more : List A
      more = picked (λ (n : ℕ). d (suc n)) xs

      rest : List A
      rest = picked (others (λ (n : ℕ). d (suc n))) xs

      by : (t : Bool) → sum (a +ℤ part x +ℤ b) xs ≡ sum (a +ℤ part x) more +ℤ sum b rest → sum (a +ℤ (b +ℤ part x)) xs ≡ sum a more +ℤ sum (b +ℤ part x) rest
          → sum (a +ℤ b +ℤ part x) xs ≡ sum a (cond t (x ∷ more) more) +ℤ sum b (cond (not t) (x ∷ rest) rest)
      by true e f = ap (λ (n : ℤ). sum n xs) (swap_last a b (part x)) ∙ e
      by false e f = ap (λ (n : ℤ). sum n xs) (+ℤ_assoc a b (part x)) ∙ f

-- ---- crossings

pub crossings_add : (f : Frame) (rings : List (List Point)) (d : ℕ → Bool) (p : Point) → crossings f rings p ≡ crossings f (picked d rings) p +ℤ crossings f (picked (others d) rings) p
unfolding crossings
crossings_add f rings d p = sum_groups (crossing f.periodic f.period p) d rings (pos 0) (pos 0)

pub crossings_perm : (f : Frame) (p : Point) {rings rings' : List (List Point)} → Permᴰ rings rings' → crossings f rings p ≡ crossings f rings' p
unfolding crossings
crossings_perm f p d =
    fold_perm_always (λ (n : ℤ) (r : List Point). n +ℤ crossing f.periodic f.period p r) (λ n a b. swap_last n (crossing f.periodic f.period p a) (crossing f.periodic f.period p b)) d (pos 0)

pub covered_perm : (f : Frame) (sense : ℕ) (p : Point) {rings rings' : List (List Point)} → Permᴰ rings rings' → covered f sense rings p ≡ covered f sense rings' p
unfolding covered
covered_perm f sense p d = ap (covered_by f.band sense) (crossings_perm f p d)
