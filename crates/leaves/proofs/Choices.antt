-- Smaller-of and larger-of. Each answers one of its two arguments, and where neither is a NaN that one is least, or
-- greatest, of the two.
-- A NaN as the second argument changes nothing, so from a start that is no NaN the answer is none, and where nothing is
-- -0 two steps may change places.
use Rattle.std.proofs.Common.{◌≡◌, Bool, true, false, cond, not, T, sym, refl, ◌∙◌}
use lib.Ieee.{Float, Format, fits, is_nan, lt, le}
use Rattle.leaves.proofs.Order.{le_self, lt→le, lt_asym, lt_left, lt_right, lt_trans, minus_zero, not_lt→le, same}
use Rattle.leaves.specs.Bounds.{smaller_of, larger_of}

-- a value that the format holds and that is not -0. It may be a NaN.
pub record Clear (f : Format) (x : Float) : Type 0 where
  pub held : T (fits f x)
  pub unmarked : T (not (minus_zero x))

-- what holds of an answer
either : (P : Float → Type 0) (c : Bool) (x y : Float) → (T c → P x) → (T (not c) → P y) → P (cond c x y)
either P true x y h k = h tt
either P false x y h k = k tt

-- ---- two steps change places, for `lt` and for `lt` the other way round

-- x or y, by two tests of which not both pass, and if neither does the two are the same
tied : (c d : Bool) (x y : Float) → (T c → T d → ⊥) → (T (not c) → T (not d) → x ≡ y) → cond c x y ≡ cond d y x
tied true true x y p q = absurd (p tt tt)
tied true false x y p q = refl
tied false true x y p q = refl
tied false false x y p q = sym (q tt tt)

-- of two steps from s, first x's and then y's, against y's and then x's: less than s are x or y by xs and ys, and than
-- each other by xy and yx
swapped : (xs ys xy yx : Bool) (x y s : Float) → (T xy → T yx → ⊥) → (T xy → T ys → T xs) → (T yx → T xs → T ys) → (T xs → T ys → T (not xy) → T (not yx) → x ≡ y)
    → cond xs (cond yx y x) (cond ys y s) ≡ cond ys (cond xy x y) (cond xs x s)
swapped true true xy yx x y s p q r e = tied yx xy y x (λ a b. p b a) (λ a b. sym (e tt tt b a))
swapped true false xy true x y s p q r e = absurd (r tt tt)
swapped true false xy false x y s p q r e = refl
swapped false true true yx x y s p q r e = absurd (q tt tt)
swapped false true false yx x y s p q r e = refl
swapped false false xy yx x y s p q r e = refl

two_steps : (less : Float → Float → Bool) (x y s : Float) (c : Bool) → cond (less y (cond c x s)) y (cond c x s) ≡ cond c (cond (less y x) y x) (cond (less y s) y s)
two_steps less x y s true = refl
two_steps less x y s false = refl

steps_swap : (less : Float → Float → Bool) (x y s : Float) → (T (less x y) → T (less y x) → ⊥) → (T (less x y) → T (less y s) → T (less x s)) → (T (less y x) → T (less x s) → T (less y s))
    → (T (less x s) → T (less y s) → T (not (less x y)) → T (not (less y x)) → x ≡ y)
    → cond (less y (cond (less x s) x s)) y (cond (less x s) x s) ≡ cond (less x (cond (less y s) y s)) x (cond (less y s) y s)
steps_swap less x y s p q r e = two_steps less x y s (less x s) ∙ swapped (less x s) (less y s) (less x y) (less y x) x y s p q r e ∙ sym (two_steps less y x s (less y s))

-- ---- smaller-of

pub smaller_by_test : (a b : Float) → smaller_of a b ≡ cond (lt b a) b a
unfolding smaller_of
smaller_by_test a b = refl

-- what holds of both holds of the answer
pub smaller_keeps : (P : Float → Type 0) (a b : Float) → P a → P b → P (smaller_of a b)
unfolding smaller_of
smaller_keeps P a b p q = either P (lt b a) b a (λ t. q) (λ t. p)

pub smaller_number : (a b : Float) → T (not (is_nan a)) → T (not (is_nan (smaller_of a b)))
unfolding smaller_of
smaller_number a b n = either (λ (x : Float). T (not (is_nan x))) (lt b a) b a (lt_left b a) (λ t. n)

pub smaller_le_first : (a b : Float) → T (not (is_nan a)) → T (le (smaller_of a b) a)
unfolding smaller_of
smaller_le_first a b n = either (λ (x : Float). T (le x a)) (lt b a) b a (lt→le b a) (λ t. le_self a n)

pub smaller_le_second : (a b : Float) → T (not (is_nan a)) → T (not (is_nan b)) → T (le (smaller_of a b) b)
unfolding smaller_of
smaller_le_second a b n o = either (λ (x : Float). T (le x b)) (lt b a) b a (λ t. le_self b o) (not_lt→le b a o n)

-- s may be anything that fits, a and b may be NaNs
pub smaller_swap : (f : Format) (s a b : Float) → T (fits f s) → Clear f a → Clear f b → smaller_of (smaller_of s a) b ≡ smaller_of (smaller_of s b) a
unfolding smaller_of
smaller_swap f s a b h p q =
    steps_swap lt a b s (lt_asym a b) (lt_trans a b s) (lt_trans b a s)
    (λ t u v w. same f a b p.held q.held (lt_left a s t) (lt_left b s u) p.unmarked q.unmarked v w)

-- ---- larger-of

pub larger_by_test : (a b : Float) → larger_of a b ≡ cond (lt a b) b a
unfolding larger_of
larger_by_test a b = refl

-- what holds of both holds of the answer
pub larger_keeps : (P : Float → Type 0) (a b : Float) → P a → P b → P (larger_of a b)
unfolding larger_of
larger_keeps P a b p q = either P (lt a b) b a (λ t. q) (λ t. p)

-- s may be anything that fits, a and b may be NaNs
pub larger_swap : (f : Format) (s a b : Float) → T (fits f s) → Clear f a → Clear f b → larger_of (larger_of s a) b ≡ larger_of (larger_of s b) a
unfolding larger_of
larger_swap f s a b h p q =
    steps_swap (λ (x y : Float). lt y x) a b s (lt_asym b a) (λ t u. lt_trans s b a u t) (λ t u. lt_trans s a b u t)
    (λ t u v w. same f a b p.held q.held (lt_right s a t) (lt_right s b u) p.unmarked q.unmarked w v)
