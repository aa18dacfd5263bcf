-- A fold whose steps commute is the same for every order of the list. So any-of, sums, and the least and the greatest
-- of values none of which is -0 do not turn on the order.
-- The steps need to commute only at the states that the fold can reach, which P holds of, and at the list's elements,
-- which Q holds of.
use Rattle.std.proofs.Common.{◌≡◌, ℕ, ◌+◌, ◌≤◌, T, List, [], ◌∷◌, ◌++◌, sym, refl, ap, ◌∙◌, subst, add-zero, add_assoc, zero-add, arith}
pub use Rattle.std.specs.List.{AllByRecursion as All}
use mathlib.Core.List.{foldl, Permᴰ}
use native.Mathlib.Nat.{add_right_comm}
use lib.Ieee.{Float, Format, fits}
use Rattle.leaves.proofs.Choices.{Clear, larger_keeps, larger_swap, smaller_keeps, smaller_swap}
use Rattle.leaves.specs.Bounds.{smaller_of, larger_of}

-- ---- what holds of every element

pub all_of : {A : Type 0} (Q : A → Type 0) → ((a : A) → Q a) → (xs : List A) → All Q xs
all_of Q h [] = tt
all_of Q h (x ∷ xs) = (h x, all_of Q h xs)

pub all_append : {A : Type 0} (Q : A → Type 0) (xs ys : List A) → All Q xs → All Q ys → All Q (xs ++ ys)
all_append Q [] ys p q = q
all_append Q (x ∷ xs) ys p q = (p.0, all_append Q xs ys p.1 q)

pub all_perm : {A : Type 0} (Q : A → Type 0) {xs ys : List A} → Permᴰ xs ys → All Q xs → All Q ys
all_perm Q Permᴰ.nil h = h
all_perm Q (Permᴰ.cons e d) h = (subst Q e h.0, all_perm Q d h.1)
all_perm Q (Permᴰ.swap e₁ e₂) h = (subst Q e₂ h.1.0, (subst Q e₁ h.0, h.1.1))
all_perm Q (Permᴰ.trans d₁ d₂) h = all_perm Q d₂ (all_perm Q d₁ h)

-- ---- the fold

module _ {A S : Type 0} (step : S → A → S) (P : S → Type 0) (Q : A → Type 0) (keeps : (s : S) (a : A) → P s → Q a → P (step s a)) where
  -- what each step keeps the fold keeps
  pub fold_keeps : (xs : List A) → All Q xs → (s : S) → P s → P (foldl step s xs)
  fold_keeps [] h s p = p
  fold_keeps (x ∷ xs) h s p = fold_keeps xs h.1 (step s x) (keeps s x p h.0)

  pub fold_perm : ((s : S) (a b : A) → P s → Q a → Q b → step (step s a) b ≡ step (step s b) a) → {xs ys : List A} → Permᴰ xs ys → All Q xs → (s : S) → P s → foldl step s xs ≡ foldl step s ys
  fold_perm swaps Permᴰ.nil h s p = refl
  fold_perm swaps (Permᴰ.cons {a = a} {l₂ = ys} e d) h s p =
      fold_perm swaps d h.1 (step s a) (keeps s a p h.0) ∙ ap (λ (x : A). foldl step (step s x) ys) e
  fold_perm swaps (Permᴰ.swap {a = a} {b = b} {a' = a'} {l = l} e₁ e₂) h s p =
      ap (λ (z : S). foldl step z l) (swaps s a b p h.0 h.1.0 ∙ ap (λ (x : A). step (step s x) a) e₂ ∙ ap (step (step s a')) e₁)
  fold_perm swaps (Permᴰ.trans d₁ d₂) h s p = fold_perm swaps d₁ h s p ∙ fold_perm swaps d₂ (all_perm Q d₁ h) s p

-- a state that no step changes
pub fold_stays : {A S : Type 0} (step : S → A → S) (s : S) → ((a : A) → step s a ≡ s) → (xs : List A) → foldl step s xs ≡ s
fold_stays step s h [] = refl
fold_stays {S = S} step s h (x ∷ xs) = ap (λ (z : S). foldl step z xs) (h x) ∙ fold_stays step s h xs

-- what is seen of the state, where each step's can be told from what was seen before it
pub fold_seen : {A S R : Type 0} (step : S → A → S) (seen : S → R) (told : R → A → R) (P : S → Type 0) → ((s : S) (a : A) → P s → P (step s a)) → ((s : S) (a : A) → P s → seen (step s a) ≡ told (seen s) a)
    → (xs : List A) (s : S) → P s → seen (foldl step s xs) ≡ foldl told (seen s) xs
fold_seen step seen told P keeps tells [] s p = refl
fold_seen {R = R} step seen told P keeps tells (x ∷ xs) s p = fold_seen step seen told P keeps tells xs (step s x) (keeps s x p) ∙ ap (λ (r : R). foldl told r xs) (tells s x p)

-- where the steps commute at every state and element
pub fold_perm_always : {A S : Type 0} (step : S → A → S) → ((s : S) (a b : A) → step (step s a) b ≡ step (step s b) a) → {xs ys : List A} → Permᴰ xs ys → (s : S) → foldl step s xs ≡ foldl step s ys
fold_perm_always {A} {S} step swaps {xs} d s =
    fold_perm step (λ (z : S). Unit {0}) (λ (a : A). Unit {0}) (λ z a p q. tt) (λ z a b p q r. swaps z a b) d (all_of (λ (a : A). Unit {0}) (λ a. tt) xs) s tt

-- ---- the folds in use

pub sum_perm : {A : Type 0} (part : A → ℕ) {xs ys : List A} → Permᴰ xs ys → (s : ℕ) → foldl (λ (n : ℕ) (x : A). n + part x) s xs ≡ foldl (λ (n : ℕ) (x : A). n + part x) s ys
sum_perm {A} part d s = fold_perm_always (λ (n : ℕ) (x : A). n + part x) (λ z a b. add_right_comm z (part a) (part b)) d s

-- a sum from n on
pub sum_from : {A : Type 0} (part : A → ℕ) (n : ℕ) (xs : List A) → foldl (λ (m : ℕ) (x : A). m + part x) n xs ≡ n + foldl (λ (m : ℕ) (x : A). m + part x) 0 xs
sum_from part n [] = sym (add-zero n)
sum_from {A} part n (x ∷ xs) =
    sum_from part (n + part x) xs
    ∙ add_assoc n (part x) (foldl (λ (m : ℕ) (y : A). m + part y) 0 xs)
    ∙ ap (λ (m : ℕ). n + m) (sym (ap (λ (m : ℕ). foldl (λ (k : ℕ) (y : A). k + part y) m xs) (zero-add (part x)) ∙ sum_from part (part x) xs))

pub sum_cons : {A : Type 0} (part : A → ℕ) (x : A) (xs : List A) → foldl (λ (m : ℕ) (y : A). m + part y) 0 (x ∷ xs) ≡ part x + foldl (λ (m : ℕ) (y : A). m + part y) 0 xs
sum_cons {A} part x xs = ap (λ (m : ℕ). foldl (λ (k : ℕ) (y : A). k + part y) m xs) (zero-add (part x)) ∙ sum_from part (part x) xs

-- no part is more than the sum
pub sum_parts : {A : Type 0} (part : A → ℕ) (n : ℕ) (xs : List A) → foldl (λ (m : ℕ) (x : A). m + part x) 0 xs ≤ n → All (λ (x : A). part x ≤ n) xs
sum_parts part n [] h = tt
sum_parts part n (x ∷ xs) h = (omega (arith, sum_cons part x xs), sum_parts part n xs (omega (arith, sum_cons part x xs)))

-- the least and the greatest, from a start that fits
pub least_perm : (f : Format) {xs ys : List Float} → Permᴰ xs ys → All (Clear f) xs → (s : Float) → T (fits f s) → foldl smaller_of s xs ≡ foldl smaller_of s ys
least_perm f = fold_perm smaller_of (λ (s : Float). T (fits f s)) (Clear f) (λ s a h p. smaller_keeps (λ (x : Float). T (fits f x)) s a h p.held) (smaller_swap f)

pub greatest_perm : (f : Format) {xs ys : List Float} → Permᴰ xs ys → All (Clear f) xs → (s : Float) → T (fits f s) → foldl larger_of s xs ≡ foldl larger_of s ys
greatest_perm f = fold_perm larger_of (λ (s : Float). T (fits f s)) (Clear f) (λ s a h p. larger_keeps (λ (x : Float). T (fits f x)) s a h p.held) (larger_swap f)
