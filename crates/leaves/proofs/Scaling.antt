-- Products with and quotients by a value that is finite and above 0. Such a value is what the tests of a program say of
-- it. It leaves an infinity and every sign as they are, and makes of a finite
-- value one fraction, which is rounded once. A zero stays the zero of its sign; a product with 0 is one.
use Rattle.std.proofs.Common.{◌≡◌, ℕ, ◌*◌, ◌<◌, Bool, true, false, cond, T, eqb, ltb, ℤ, pos, refl, ap, ◌∙◌, zero-lt-suc, mul_comm, mul-pos, mul-zero, arith, ltb→lt, lt→ltb}
use Rattle.std.proofs.lemmas.Bool.{ne_eqb}
use lib.Ieee.{Float, nan, inf, fin, Format, up, down, of_bits, round, mul, div, unlike, lt}
use lib.Ieee.Fits.{down_pos}
use lib.Ieee.Positive.{positive, num, den, den_pos, first_pos, own_value, value_pos}
use lib.Ieee.Scale.{finite}
use Rattle.leaves.specs.Constants as constants
use Rattle.leaves.proofs.Signs.{round_of_none, round_sign}
use Rattle.leaves.proofs.Values.{sign}

-- ---- a value that is finite and above zero, by tests

pub positive_of_lt : (p : Float) → T (finite p) → T (lt constants.plus_zero p) → T (positive p)
unfolding lt of_bits
positive_of_lt nan h l = l
positive_of_lt (inf s) h l = absurd h
positive_of_lt (fin true n d) h l = l
positive_of_lt (fin false n d) h l = lt→ltb 0 n (first_pos n (up d) (first_pos (n * up d) 1 (some (0 * down d) (n * up d * 1) (ltb→lt (0 * down d) (n * up d * 1) l))))
  where
    some : (a b : ℕ) → a < b → 0 < b
    some a b h = omega arith

pub size_above : (p : Float) → T (positive p) → 0 < num p
size_above p h = value_pos p (num p) (den p) h (den_pos p) (own_value p h)

-- ---- as one fraction

like : (s : Bool) → unlike s false ≡ s
like true = refl
like false = refl

not_none : (n : ℕ) → T (ltb 0 n) → eqb n 0 ≡ false
not_none n h = ne_eqb n 0 (λ e. clash (ltb→lt 0 n h) e)
  where
    clash : 0 < n → n ≡ 0 → ⊥
    clash l z = omega arith

pub mul_of_inf : (f : Format) (p : Float) → T (positive p) → (s : Bool) → mul f (inf s) p ≡ inf s
unfolding mul
mul_of_inf f nan h s = absurd h
mul_of_inf f (inf t) h s = absurd h
mul_of_inf f (fin true n d) h s = absurd h
mul_of_inf f (fin false n d) h s = ap (λ (b : Bool). cond b nan (inf (unlike s false))) (not_none n h) ∙ ap inf (like s)

pub mul_of_finite : (f : Format) (p : Float) → T (positive p) → (s : Bool) (m : ℕ) (e : ℤ) → mul f (fin s m e) p ≡ round f s (m * up e * num p) (down e * den p)
unfolding mul
mul_of_finite f nan h s m e = absurd h
mul_of_finite f (inf t) h s m e = absurd h
mul_of_finite f (fin true n d) h s m e = absurd h
mul_of_finite f (fin false n d) h s m e = ap (λ (t : Bool). round f t (m * up e * (n * up d)) (down e * down d)) (like s)

pub div_of_inf : (f : Format) (p : Float) → T (positive p) → (s : Bool) → div f (inf s) p ≡ inf s
unfolding div
div_of_inf f nan h s = absurd h
div_of_inf f (inf t) h s = absurd h
div_of_inf f (fin true n d) h s = absurd h
div_of_inf f (fin false n d) h s = ap inf (like s)

pub div_of_finite : (f : Format) (p : Float) → T (positive p) → (s : Bool) (m : ℕ) (e : ℤ) → div f (fin s m e) p ≡ round f s (m * up e * den p) (down e * num p)
unfolding div
div_of_finite f nan h s m e = absurd h
div_of_finite f (inf t) h s m e = absurd h
div_of_finite f (fin true n d) h s m e = absurd h
div_of_finite f (fin false n d) h s m e =
    ap (λ (b : Bool). cond b (cond (eqb m 0) nan (inf (unlike s false))) (round f (unlike s false) (m * up e * down d) (n * up d * down e))) (not_none n h)
    ∙ ap (λ (t : Bool). round f t (m * up e * down d) (n * up d * down e)) (like s)
    ∙ ap (round f s (m * up e * down d)) (mul_comm (n * up d) (down e))

-- ---- the sign

pub div_sign : (f : Format) (p : Float) → T (positive p) → (s : Bool) (m : ℕ) (e : ℤ) → sign (div f (fin s m e) p) ≡ s
div_sign f p h s m e = ap sign (div_of_finite f p h s m e) ∙ round_sign f s (m * up e * den p) (down e * num p)

pub mul_by_zero : (f : Format) (s : Bool) (m : ℕ) (e : ℤ) → mul f (fin s m e) constants.plus_zero ≡ fin s 0 (pos 0)
unfolding mul of_bits
mul_by_zero f s m e =
    ap (λ (t : Bool). round f t (m * up e * 0) (down e * 1)) (like s) ∙ ap (λ (a : ℕ). round f s a (down e * 1)) (mul-zero (m * up e)) ∙ round_of_none f s (down e * 1) (mul-pos (down_pos e) (zero-lt-suc 0))
