-- The order of the values that a format holds, of either sign. `place` numbers them in order, from one infinity to the
-- other, with one number for both zeros. Two values that are neither a NaN nor -0, and neither of which is less than
-- the other, are the same. What equals 0, or lies between a zero and its opposite, is a zero. So of two equal values
-- that are no zeros each is the other.
use Rattle.std.proofs.Common.{◌≡◌, ℕ, zero, suc, ◌+◌, ◌-◌, ◌*◌, ◌^◌, ◌<◌, ◌≤◌, Bool, true, false, not, ◌||◌, T, eqb, ltb, ℤ, pos, sym, refl, ◌∙◌, subst, ap₂, inl, inr, zero-le, le_refl, le_of_lt, zero-lt-suc, add-mul, eq-zero-or-pos, le_antisymm, lt_of_mul-lt-mul_right, mul-lt-mul_of_pos_right, mul-pos, zero-mul, arith, eqb→eq, ltb→lt, lt→ltb, nltb→le, T_not, pow_pos}
pub use Rattle.std.proofs.lemmas.Float.{lt_irrefl as float_lt_irrefl, le_refl as le_self, le_of_lt as lt→le, le_of_eq as eq→le, le_of_not-lt as not_lt→le, le_left, le_right, lt_trans, eq_flip as eq_sym}
use Rattle.std.proofs.lemmas.Float.{lt_of_lt_of_le, lt_of_le_of_lt, le_trans, lt-or-eq}
use mathlib.Core.Bool.{beq}
use lib.Dec.{not_T}
use lib.Ieee.{Float, nan, inf, fin, Format, low, up, down, of_bits, neg, fits, is_nan, lt, eq, le}
use lib.Ieee.Fits.{and_i, and_l, down_pos, eq→eqb, up_pos}
use lib.Ieee.Scale.{finite, overflow}
use Rattle.leaves.specs.Constants as constants
use Rattle.leaves.proofs.Values.{same_units, sign, units_over, units_over_swapped, units_small, units_zero, units_in, zero_units}

abbrev pub minus_zero : Float → Bool
minus_zero nan = false
minus_zero (inf s) = false
minus_zero (fin false m e) = false
minus_zero (fin true zero e) = true
minus_zero (fin true (suc m) e) = false

-- where a value stands among those that the format holds: -infinity at 0, the zeros in the middle, infinity at the end
abbrev pub place : Format → Float → ℕ
place f nan = 0
place f (inf true) = 0
place f (inf false) = overflow f + overflow f
place f (fin true m e) = overflow f - units_in f (fin true m e)
place f (fin false m e) = overflow f + units_in f (fin false m e)

-- ---- tests

same_test : (a b : Bool) → (T a → T b) → (T b → T a) → a ≡ b
same_test true true p q = refl
same_test true false p q = absurd (p tt)
same_test false true p q = absurd (q tt)
same_test false false p q = refl

same_lt : (a b p q : ℕ) → (a < b → p < q) → (p < q → a < b) → ltb a b ≡ ltb p q
same_lt a b p q h k = same_test (ltb a b) (ltb p q) (λ t. lt→ltb p q (h (ltb→lt a b t))) (λ t. lt→ltb a b (k (ltb→lt p q t)))

under : (p q : ℕ) → p < q → true ≡ ltb p q
under p q h = same_test true (ltb p q) (λ t. lt→ltb p q h) (λ t. tt)

over : (p q : ℕ) → q ≤ p → false ≡ ltb p q
over p q h = same_test false (ltb p q) (λ t. absurd t) (λ t. clash (ltb→lt p q t))
  where
    clash : p < q → ⊥
    clash k = omega arith

-- ---- `lt` by the places

-- a / l and b / l are u / c and v / c
ratio : (a b u v l c : ℕ) → 0 < l → 0 < c → a * l ≡ u * c → b * l ≡ v * c → ltb a b ≡ ltb u v
ratio a b u v l c L C p q =
    same_lt a b u v
    (λ h. lt_of_mul-lt-mul_right c (subst (λ (x : ℕ). x < v * c) p (subst (λ (x : ℕ). a * l < x) q (mul-lt-mul_of_pos_right h L))))
    (λ h. lt_of_mul-lt-mul_right l (subst (λ (x : ℕ). x < b * l) (sym p) (subst (λ (x : ℕ). u * c < x) (sym q) (mul-lt-mul_of_pos_right h C))))

-- u and v units above the middle B, or below it
up_up : (B u v : ℕ) → ltb u v ≡ ltb (B + u) (B + v)
up_up B u v = same_lt u v (B + u) (B + v) (λ h. omega arith) (λ h. omega arith)

down_down : (B u v : ℕ) → u < B → v < B → ltb v u ≡ ltb (B - u) (B - v)
down_down B u v h₁ h₂ = same_lt v u (B - u) (B - v) (λ h. omega arith) (λ h. omega arith)

up_down : (B u v : ℕ) → B - v ≤ B + u
up_down B u v = omega arith

down_up : (B u v : ℕ) → u < B → ltb 0 (u + v) ≡ ltb (B - u) (B + v)
down_up B u v h₁ = same_lt 0 (u + v) (B - u) (B + v) (λ h. omega arith) (λ h. omega arith)

-- a finite value stands between the infinities
after : (f : Format) (s : Bool) (m : ℕ) (e : ℤ) → T (fits f (fin s m e)) → 0 < place f (fin s m e)
after f true m e h = go (overflow f) (units_in f (fin true m e)) (units_small f (fin true m e) h)
  where
    go : (B u : ℕ) → u < B → 0 < B - u
    go B u k = omega arith
after f false m e h = go (overflow f) (units_in f (fin false m e)) (units_small f (fin false m e) h)
  where
    go : (B u : ℕ) → u < B → 0 < B + u
    go B u k = omega arith

before : (f : Format) (s : Bool) (m : ℕ) (e : ℤ) → T (fits f (fin s m e)) → place f (fin s m e) < overflow f + overflow f
before f true m e h = go (overflow f) (units_in f (fin true m e)) (units_small f (fin true m e) h)
  where
    go : (B u : ℕ) → u < B → B - u < B + B
    go B u k = omega arith
before f false m e h = go (overflow f) (units_in f (fin false m e)) (units_small f (fin false m e) h)
  where
    go : (B u : ℕ) → u < B → B + u < B + B
    go B u k = omega arith

twice_pos : (B : ℕ) → 0 < B → 0 < B + B
twice_pos B h = omega arith

-- a NaN is never less, and its place is the first, so y may be one
pub lt_place : (f : Format) (x y : Float) → T (fits f x) → T (fits f y) → T (not (is_nan x)) → lt x y ≡ ltb (place f x) (place f y)
unfolding lt is_nan
lt_place f nan y h k n = absurd n
lt_place f (inf true) nan h k n = refl
lt_place f (inf false) nan h k n = over (overflow f + overflow f) 0 zero-le
lt_place f (inf true) (inf true) h k n = refl
lt_place f (inf true) (inf false) h k n = under 0 (overflow f + overflow f) (twice_pos (overflow f) (units_small f (inf true) h))
lt_place f (inf false) (inf true) h k n = over (overflow f + overflow f) 0 zero-le
lt_place f (inf false) (inf false) h k n = over (overflow f + overflow f) (overflow f + overflow f) (le_refl (overflow f + overflow f))
lt_place f (inf true) (fin t m e) h k n = under 0 (place f (fin t m e)) (after f t m e k)
lt_place f (inf false) (fin t m e) h k n = over (overflow f + overflow f) (place f (fin t m e)) (le_of_lt (before f t m e k))
lt_place f (fin s m e) nan h k n = over (place f (fin s m e)) 0 zero-le
lt_place f (fin s m e) (inf true) h k n = over (place f (fin s m e)) 0 zero-le
lt_place f (fin s m e) (inf false) h k n = under (place f (fin s m e)) (overflow f + overflow f) (before f s m e h)
lt_place f (fin false m e) (fin false n d) h k u =
    ratio (m * up e * down d) (n * up d * down e) (units_in f (fin false m e)) (units_in f (fin false n d)) (2 ^ low f) (down e * down d) (pow_pos (low f)) (mul-pos (down_pos e) (down_pos d)) (units_over f false m e (down d) h) (units_over_swapped f false n d (down e) k)
    ∙ up_up (overflow f) (units_in f (fin false m e)) (units_in f (fin false n d))
lt_place f (fin false m e) (fin true n d) h k u =
    over (overflow f + units_in f (fin false m e)) (overflow f - units_in f (fin true n d)) (up_down (overflow f) (units_in f (fin false m e)) (units_in f (fin true n d)))
lt_place f (fin true m e) (fin false n d) h k u =
    ratio 0 (m * up e * down d + n * up d * down e) 0 (units_in f (fin true m e) + units_in f (fin false n d)) (2 ^ low f) (down e * down d) (pow_pos (low f)) (mul-pos (down_pos e) (down_pos d)) (zero-mul (2 ^ low f) ∙ sym (zero-mul (down e * down d)))
    (add-mul (m * up e * down d) (n * up d * down e) (2 ^ low f) ∙ ap₂ (λ (x y : ℕ). x + y) (units_over f true m e (down d) h) (units_over_swapped f false n d (down e) k) ∙ sym (add-mul (units_in f (fin true m e)) (units_in f (fin false n d)) (down e * down d)))
    ∙ down_up (overflow f) (units_in f (fin true m e)) (units_in f (fin false n d)) (units_small f (fin true m e) h)
lt_place f (fin true m e) (fin true n d) h k u =
    ratio (n * up d * down e) (m * up e * down d) (units_in f (fin true n d)) (units_in f (fin true m e)) (2 ^ low f) (down e * down d) (pow_pos (low f)) (mul-pos (down_pos e) (down_pos d)) (units_over_swapped f true n d (down e) k) (units_over f true m e (down d) h)
    ∙ down_down (overflow f) (units_in f (fin true m e)) (units_in f (fin true n d)) (units_small f (fin true m e) h) (units_small f (fin true n d) k)

-- ---- the order's laws, most of them the library's

-- what `lt` holds of is no NaN
pub lt_left : (x y : Float) → T (lt x y) → T (not (is_nan x))
lt_left x y h = le_left x y (lt→le x y h)

pub lt_right : (x y : Float) → T (lt x y) → T (not (is_nan y))
lt_right x y h = le_right x y (lt→le x y h)

pub le→not_lt : (x y : Float) → T (le x y) → T (not (lt y x))
le→not_lt x y l = not_T (lt y x) (λ h. float_lt_irrefl y (lt_of_lt_of_le y x y h l))

-- for values that are no NaN `le` is not less the other way
pub le_lt : (x y : Float) → T (not (is_nan x)) → T (not (is_nan y)) → le x y ≡ not (lt y x)
le_lt x y h k = same_test (le x y) (not (lt y x)) (le→not_lt x y) (not_lt→le y x k h)

pub eq→not_lt : (x y : Float) → T (eq x y) → T (not (lt y x))
eq→not_lt x y e = le→not_lt x y (eq→le x y e)

pub le_antisym : (x y : Float) → T (le x y) → T (le y x) → T (eq x y)
le_antisym x y p q = elim (lt-or-eq x y p) [ inl l ↦ absurd (float_lt_irrefl x (lt_of_lt_of_le x y x l q)) | inr e ↦ e ]

pub lt_asym : (x y : Float) → T (lt x y) → T (lt y x) → ⊥
lt_asym x y l m = float_lt_irrefl x (lt_trans x y x l m)

-- the library's chains, as those cite them who hand on what the format holds
module _ (f : Format) (x y z : Float) (h : T (fits f x)) (k : T (fits f y)) (j : T (fits f z)) where
  pub lt_le_trans : T (lt x y) → T (le y z) → T (lt x z)
  lt_le_trans p q = lt_of_lt_of_le x y z p q

  pub le_lt_trans : T (le x y) → T (lt y z) → T (lt x z)
  le_lt_trans p q = lt_of_le_of_lt x y z p q

  pub float_le_trans : T (le x y) → T (le y z) → T (le x z)
  float_le_trans p q = le_trans x y z p q

-- ---- the infinities are the ends

pub lowest : (z : Float) → T (not (is_nan z)) → T (le (inf true) z)
unfolding is_nan le
lowest nan n = n
lowest (inf true) n = tt
lowest (inf false) n = tt
lowest (fin s m e) n = tt

pub highest : (z : Float) → T (not (is_nan z)) → T (le z (inf false))
unfolding is_nan le
highest nan n = n
highest (inf true) n = tt
highest (inf false) n = tt
highest (fin s m e) n = tt

-- ---- what lies between finite values is finite

pub between_finite : (a x b : Float) → T (finite a) → T (finite b) → T (le a x) → T (le x b) → T (finite x)
unfolding le lt eq is_nan
between_finite a nan b h k p q = absurd (le_right a nan p)
between_finite nan (inf true) b h k p q = absurd h
between_finite (inf s) (inf true) b h k p q = absurd h
between_finite (fin s m e) (inf true) b h k p q = absurd p
between_finite a (inf false) nan h k p q = absurd k
between_finite a (inf false) (inf t) h k p q = absurd k
between_finite a (inf false) (fin t n d) h k p q = absurd q
between_finite a (fin s m e) b h k p q = tt

pub neg_finite : (x : Float) → T (finite x) → T (finite (neg x))
unfolding neg
neg_finite nan h = h
neg_finite (inf s) h = h
neg_finite (fin s m e) h = tt

pub within_finite : (limit x : Float) → T (finite limit) → T (le (neg limit) x) → T (le x limit) → T (finite x)
within_finite limit x h = between_finite (neg limit) x limit (neg_finite limit h) h

-- ---- by the places

module _ (f : Format) (x y : Float) (h : T (fits f x)) (k : T (fits f y)) where
  pub lt→place : T (lt x y) → place f x < place f y
  lt→place l = ltb→lt (place f x) (place f y) (subst T (lt_place f x y h k (lt_left x y l)) l)

  pub place→lt : T (not (is_nan x)) → place f x < place f y → T (lt x y)
  place→lt n l = subst T (sym (lt_place f x y h k n)) (lt→ltb (place f x) (place f y) l)

  pub le→place : T (le x y) → place f x ≤ place f y
  le→place l = nltb→le (place f y) (place f x) (subst (λ (b : Bool). T (not b)) (lt_place f y x k h (le_right x y l)) (le→not_lt x y l))

-- ---- one value to a place, but for the zeros

apart : (p q : ℕ) → p < q → p ≡ q → ⊥
apart p q h e = omega arith

units_up : (B u v : ℕ) → B + u ≡ B + v → u ≡ v
units_up B u v e = omega arith

units_down : (B u v : ℕ) → u < B → v < B → B - u ≡ B - v → u ≡ v
units_down B u v h k e = omega arith

off_middle : (B u v : ℕ) → 0 < v → v < B → B + u ≡ B - v → ⊥
off_middle B u v h k e = omega arith

-- a negative value that is not -0 is a unit at least
pub negative_units : (f : Format) (m : ℕ) (e : ℤ) → T (fits f (fin true m e)) → T (not (minus_zero (fin true m e))) → 0 < units_in f (fin true m e)
negative_units f m e h z = elim (eq-zero-or-pos (units_in f (fin true m e))) [ inl u ↦ absurd (subst (λ (x : Float). T (not (minus_zero x))) (units_zero f true m e h u) z) | inr u ↦ u ]

same_place : (f : Format) (x y : Float) → T (fits f x) → T (fits f y) → T (not (is_nan x)) → T (not (is_nan y)) → T (not (minus_zero x)) → T (not (minus_zero y)) → place f x ≡ place f y → x ≡ y
unfolding is_nan
same_place f nan y h k n o a b q = absurd n
same_place f (inf s) nan h k n o a b q = absurd o
same_place f (inf true) (inf true) h k n o a b q = refl
same_place f (inf true) (inf false) h k n o a b q = absurd (apart 0 (overflow f + overflow f) (twice_pos (overflow f) (units_small f (inf true) h)) q)
same_place f (inf false) (inf true) h k n o a b q = absurd (apart 0 (overflow f + overflow f) (twice_pos (overflow f) (units_small f (inf false) h)) (sym q))
same_place f (inf false) (inf false) h k n o a b q = refl
same_place f (inf true) (fin t m e) h k n o a b q = absurd (apart 0 (place f (fin t m e)) (after f t m e k) q)
same_place f (inf false) (fin t m e) h k n o a b q = absurd (apart (place f (fin t m e)) (overflow f + overflow f) (before f t m e k) (sym q))
same_place f (fin s m e) nan h k n o a b q = absurd o
same_place f (fin s m e) (inf true) h k n o a b q = absurd (apart 0 (place f (fin s m e)) (after f s m e h) (sym q))
same_place f (fin s m e) (inf false) h k n o a b q = absurd (apart (place f (fin s m e)) (overflow f + overflow f) (before f s m e h) q)
same_place f (fin false m e) (fin false n d) h k _ _ a b q = same_units f false false m n e d h k refl (units_up (overflow f) (units_in f (fin false m e)) (units_in f (fin false n d)) q)
same_place f (fin false m e) (fin true n d) h k _ _ a b q =
    absurd (off_middle (overflow f) (units_in f (fin false m e)) (units_in f (fin true n d)) (negative_units f n d k b) (units_small f (fin true n d) k) q)
same_place f (fin true m e) (fin false n d) h k _ _ a b q =
    absurd (off_middle (overflow f) (units_in f (fin false n d)) (units_in f (fin true m e)) (negative_units f m e h a) (units_small f (fin true m e) h) (sym q))
same_place f (fin true m e) (fin true n d) h k _ _ a b q =
    same_units f true true m n e d h k refl (units_down (overflow f) (units_in f (fin true m e)) (units_in f (fin true n d)) (units_small f (fin true m e) h) (units_small f (fin true n d) k) q)

-- two values that are neither a NaN nor -0, neither of them less than the other
pub same : (f : Format) (x y : Float) → T (fits f x) → T (fits f y) → T (not (is_nan x)) → T (not (is_nan y)) → T (not (minus_zero x)) → T (not (minus_zero y)) → T (not (lt x y)) → T (not (lt y x)) → x ≡ y
same f x y h k n o a b p q = same_place f x y h k n o a b (le_antisymm (le→place f x y h k (not_lt→le y x o n q)) (le→place f y x k h (not_lt→le x y n o p)))

-- ---- zeros

-- what is equal to 0 is the zero of its sign
pub zero_of_eq : (f : Format) (x : Float) → T (fits f x) → T (eq x constants.plus_zero) → x ≡ fin (sign x) 0 (pos 0)
unfolding eq of_bits
zero_of_eq f nan h e = absurd e
zero_of_eq f (inf s) h e = absurd e
zero_of_eq f (fin s zero e) h l = units_zero f s zero e h (zero_units f s e)
zero_of_eq f (fin s (suc m) e) h l =
    absurd (none (suc m * up e) (0 * down e) (mul-pos (zero-lt-suc m) (up_pos e)) (zero-mul (down e)) (eqb→eq (suc m * up e * 1) (0 * down e) (and_l (eqb (suc m * up e * 1) (0 * down e)) (beq s false || eqb (suc m * up e * 1) 0) l)))
  where
    none : (a b : ℕ) → 0 < a → b ≡ 0 → a * 1 ≡ b → ⊥
    none a b h k e = omega arith

zero_up : (e : ℤ) → T (eq (fin true zero e) constants.plus_zero)
unfolding eq of_bits
zero_up e = and_i (eqb (0 * up e * 1) (0 * down e)) (eqb (0 * up e * 1) 0) (eq→eqb {a = 0 * up e * 1} {b = 0 * down e} (omega (arith, zero-mul (up e), zero-mul (down e)))) (eq→eqb {a = 0 * up e * 1} {b = 0} (omega (arith, zero-mul (up e))))

pub clear_of_nonzero : (x : Float) → T (not (eq x constants.plus_zero)) → T (not (minus_zero x))
clear_of_nonzero nan h = tt
clear_of_nonzero (inf s) h = tt
clear_of_nonzero (fin false m e) h = tt
clear_of_nonzero (fin true zero e) h = T_not (eq (fin true zero e) constants.plus_zero) h (zero_up e)
clear_of_nonzero (fin true (suc m) e) h = tt

-- of two values that are equal and no zeros each is the other
pub same_nonzero : (f : Format) (x y : Float) → T (fits f x) → T (fits f y) → T (not (eq x constants.plus_zero)) → T (le x y) → T (le y x) → y ≡ x
same_nonzero f x y h k n p q =
    same f y x k h (le_right x y p) (le_left x y p) (clear_of_nonzero y (not_T (eq y constants.plus_zero) also)) (clear_of_nonzero x n) (le→not_lt x y p) (le→not_lt y x q)
  where
    also : T (eq y constants.plus_zero) → ⊥
    also e =
        let z = constants.plus_zero in
        T_not (eq x z) n (le_antisym x z (le_trans x y z p (eq→le y z e)) (le_trans z y x (eq→le z y (eq_sym y z e)) q))
