-- Every finite value that a format holds is a whole number of the format's smallest value, 2 ^ -low: that number and
-- the sign give the value.
-- So two values that fit and have the same value are the same. From 2 ^ (prec - 1 + k) units on the values are
-- multiples of 2 ^ k units.
use Rattle.std.proofs.Common.{◌≡◌, ℕ, zero, suc, ◌+◌, ◌-◌, ◌*◌, ◌/◌, ◌%◌, ◌^◌, ◌<◌, ◌≤◌, Bool, cond, ◌&&◌, T, eqb, ltb, leb, ℤ, pos, negsuc, sym, refl, ap, ◌∙◌, subst, le_trans, lt_of_lt_of_le, le_of_suc-le-suc, lt_irrefl, zero-lt-suc, mul_assoc, mul_comm, div-lt_iff_lt-mul, mul-lt-mul_of_pos_right, mul-pos, one-mul, lt_of_not-le, zero-mul, mul-one, mul_right_comm, mul-div_cancel, arith, eqb→eq, ltb→lt, leb→le, pow_pos, pow_mono, pow-add, shl_lt}
use native.Mathlib.Nat.{eq_of_mul-eq-mul_right, pow-succ'}
use lib.Pow.{pow-lt}
use lib.Ieee.{Float, nan, inf, fin, Format, prec, emax, low, up, down, size, fits, hid, top, of_bits, to_bits}
use lib.Ieee.Digits.{back}
use lib.Ieee.Fits.{and_l, and_r, down_pos, two, up_pos}
use lib.Ieee.Exact.{HasValue}
use lib.Ieee.Nearest.{div_same}
use lib.Ieee.Scale.{overflow}
use lib.Ieee.Bits.{of_bits-to_bits}
pub use Rattle.leaves.specs.Nearest.{units_in}
pub use Rattle.leaves.specs.Keys.{sign}

-- ---- what it takes to fit

two_up : (p : ℕ) → 0 < p → 2 * p ≡ 1 → ⊥
two_up p h e = omega arith

-- 2 ^ e is 1 / 1 only for e = 0
plain : (e : ℤ) → up e * down e ≡ 1 → e ≡ pos 0
plain (pos zero) h = refl
plain (pos (suc k)) h = absurd (two_up (2 ^ k) (pow_pos k) (sym (pow-succ' 2 k) ∙ sym (mul-one (2 ^ suc k)) ∙ h))
plain (negsuc k) h = absurd (two_up (2 ^ k) (pow_pos k) (sym (pow-succ' 2 k) ∙ sym (one-mul (2 ^ suc k)) ∙ h))

-- what `fits` says of a finite value but that it is written in the one way
pub record Held (f : Format) (m : ℕ) (e : ℤ) : Type 0 where
  pub digits : m < 2 ^ prec f
  pub above : down e ≤ 2 ^ low f
  pub below : m * up e < 2 ^ suc (emax f) * down e

held_zero : (f : Format) (e : ℤ) → e ≡ pos 0 → Held f zero e
held_zero f e h = subst (λ (x : ℤ). Held f zero x) (sym h) (record { digits = pow_pos (prec f); above = pow_pos (low f); below = mul-pos (pow_pos (suc (emax f))) (zero-lt-suc 0) })

pub held : (f : Format) (s : Bool) (m : ℕ) (e : ℤ) → T (fits f (fin s m e)) → Held f m e
unfolding fits
held f s zero e h = held_zero f e (plain e (eqb→eq (up e * down e) 1 h))
held f s (suc m) e h =
    let A = eqb (suc m % 2) 1 in
    let B = ltb (suc m) (2 ^ prec f) in
    let C = leb (down e) (2 ^ low f) in
    let D = ltb (suc m * up e) (2 ^ suc (emax f) * down e) in
    record {
      digits = ltb→lt (suc m) (2 ^ prec f) (and_r A B (and_l (A && B) C (and_l (A && B && C) D h)));
      above = leb→le (down e) (2 ^ low f) (and_r (A && B) C (and_l (A && B && C) D h));
      below = ltb→lt (suc m * up e) (2 ^ suc (emax f) * down e) (and_r (A && B && C) D h);
    }

pub odd : (f : Format) (s : Bool) (m : ℕ) (e : ℤ) → T (fits f (fin s (suc m) e)) → suc m % 2 ≡ 1
unfolding fits
odd f s m e h =
    let A = eqb (suc m % 2) 1 in
    let B = ltb (suc m) (2 ^ prec f) in
    let C = leb (down e) (2 ^ low f) in
    eqb→eq (suc m % 2) 1 (and_l A B (and_l (A && B) C (and_l (A && B && C) (ltb (suc m * up e) (2 ^ suc (emax f) * down e)) h)))

-- ---- a value's units

pow_le_back : (a l : ℕ) → 2 ^ a ≤ 2 ^ l → a ≤ l
pow_le_back a l h = le_of_suc-le-suc (lt_of_not-le (λ (g : suc l ≤ a). lt_irrefl (2 ^ l) (lt_of_lt_of_le (pow-lt g) h)))

-- 2 ^ e is 2 ^ j units
exponent : (l : ℕ) (e : ℤ) → down e ≤ 2 ^ l → (j : ℕ) × (up e * 2 ^ l ≡ 2 ^ j * down e)
exponent l (pos a) h = (a + l, sym (pow-add 2 a l) ∙ sym (mul-one (2 ^ (a + l))))
exponent l (negsuc a) h = (l - suc a, one-mul (2 ^ l) ∙ ap (λ (x : ℕ). 2 ^ x) (sym (back l (suc a) (pow_le_back (suc a) l h))) ∙ pow-add 2 (l - suc a) (suc a))

-- m * 2 ^ e is m * 2 ^ j units
pub shifted : (f : Format) (s : Bool) (m : ℕ) (e : ℤ) → T (fits f (fin s m e)) → (j : ℕ) × (m * up e * 2 ^ low f ≡ m * 2 ^ j * down e)
shifted f s m e h =
    let j = exponent (low f) e (held f s m e h).above in
    (j.0, mul_assoc m (up e) (2 ^ low f) ∙ ap (λ (x : ℕ). m * x) j.1 ∙ sym (mul_assoc m (2 ^ j.0) (down e)))

-- a value of a units has a for its units, whatever its form
pub units_of_value : (f : Format) (x : Float) (s : Bool) (a : ℕ) → HasValue x s a (2 ^ low f) → units_in f x ≡ a
units_of_value f nan s a h = absurd h
units_of_value f (inf t) s a h = absurd h
units_of_value f (fin t m e) s a h = ap (λ (x : ℕ). x / down e) h.1 ∙ mul-div_cancel a (down_pos e)

-- a zero has none
pub zero_value : (f : Format) (s : Bool) (e : ℤ) → HasValue (fin s zero e) s 0 (2 ^ low f)
zero_value f s e = (refl, ap (λ (z : ℕ). z * 2 ^ low f) (zero-mul (up e)) ∙ zero-mul (2 ^ low f) ∙ sym (zero-mul (down e)))

pub zero_units : (f : Format) (s : Bool) (e : ℤ) → units_in f (fin s zero e) ≡ 0
zero_units f s e = units_of_value f (fin s zero e) s 0 (zero_value f s e)

pub own_units : (f : Format) (s : Bool) (m : ℕ) (e : ℤ) → T (fits f (fin s m e)) → HasValue (fin s m e) s (units_in f (fin s m e)) (2 ^ low f)
own_units f s m e h =
    let j = shifted f s m e h in
    (refl, j.1 ∙ ap (λ (x : ℕ). x * down e) (sym (units_of_value f (fin s m e) s (m * 2 ^ j.0) (refl, j.1))))

-- over a common denominator, k times the value's own
pub units_over : (f : Format) (s : Bool) (m : ℕ) (e : ℤ) (k : ℕ) → T (fits f (fin s m e)) → m * up e * k * 2 ^ low f ≡ units_in f (fin s m e) * (down e * k)
units_over f s m e k h = mul_right_comm (m * up e) k (2 ^ low f) ∙ ap (λ (x : ℕ). x * k) (own_units f s m e h).1 ∙ mul_assoc (units_in f (fin s m e)) (down e) k

pub units_over_swapped : (f : Format) (s : Bool) (n : ℕ) (d : ℤ) (k : ℕ) → T (fits f (fin s n d)) → n * up d * k * 2 ^ low f ≡ units_in f (fin s n d) * (k * down d)
units_over_swapped f s n d k h = units_over f s n d k h ∙ ap (λ (x : ℕ). units_in f (fin s n d) * x) (mul_comm (down d) k)

pub units_small : (f : Format) (x : Float) → T (fits f x) → units_in f x < overflow f
units_small f nan h = pow_pos (low f + suc (emax f))
units_small f (inf s) h = pow_pos (low f + suc (emax f))
units_small f (fin s m e) h =
    let l = 2 ^ low f in
    let t = 2 ^ suc (emax f) in
    (div-lt_iff_lt-mul (down_pos e)).1
    (subst (λ (x : ℕ). m * up e * l < x) (mul_comm (t * down e) l ∙ sym (mul_assoc l t (down e)) ∙ ap (λ (x : ℕ). x * down e) (sym (pow-add 2 (low f) (suc (emax f)))))
    (mul-lt-mul_of_pos_right (held f s m e h).below (pow_pos (low f))))

-- a value of 0 units is a zero
pub units_zero : (f : Format) (s : Bool) (m : ℕ) (e : ℤ) → T (fits f (fin s m e)) → units_in f (fin s m e) ≡ 0 → fin s m e ≡ fin s zero (pos 0)
unfolding fits
units_zero f s zero e h u = ap (λ (x : ℤ). fin s zero x) (plain e (eqb→eq (up e * down e) 1 h))
units_zero f s (suc m) e h u =
    absurd (lt_irrefl 0 (subst (λ (x : ℕ). 0 < x) ((own_units f s (suc m) e h).1 ∙ ap (λ (x : ℕ). x * down e) u ∙ zero-mul (down e)) (mul-pos (mul-pos (zero-lt-suc m) (up_pos e)) (pow_pos (low f)))))

-- ---- the sign and the units give the value

bits_of : Format → Bool → ℕ → ℕ
bits_of f s n = cond s (top f) 0 + (size n - prec f) * hid f + n / 2 ^ (size n - prec f)

bits_are : (f : Format) (s : Bool) (m : ℕ) (e : ℤ) → to_bits f (fin s m e) ≡ bits_of f s (units_in f (fin s m e))
unfolding to_bits bits_of
bits_are f s m e = refl

pub same_units : (f : Format) (s t : Bool) (m n : ℕ) (e d : ℤ) → T (fits f (fin s m e)) → T (fits f (fin t n d)) → s ≡ t → units_in f (fin s m e) ≡ units_in f (fin t n d) → fin s m e ≡ fin t n d
same_units f s t m n e d h k p q =
    sym (of_bits-to_bits f (fin s m e) h)
    ∙ ap (of_bits f) (bits_are f s m e ∙ ap (λ (b : Bool). bits_of f b (units_in f (fin s m e))) p ∙ ap (bits_of f t) q ∙ sym (bits_are f t n d))
    ∙ of_bits-to_bits f (fin t n d) k

-- x / de and y / dd are both a / c
same_fraction : (x y de dd a c l : ℕ) → 0 < c → x * c ≡ a * de → y * c ≡ a * dd → x * l * dd ≡ y * l * de
same_fraction x y de dd a c l C p q =
    mul_right_comm x l dd
    ∙ ap (λ (z : ℕ). z * l)
    (eq_of_mul-eq-mul_right c C (x * dd) (y * de)
    (mul_right_comm x dd c ∙ ap (λ (z : ℕ). z * dd) p ∙ mul_right_comm a de dd ∙ ap (λ (z : ℕ). z * de) (sym q) ∙ mul_right_comm y c de))
    ∙ mul_right_comm y de l

pub same_value : (f : Format) (x y : Float) (s : Bool) (a c : ℕ) → 0 < c → T (fits f x) → T (fits f y) → HasValue x s a c → HasValue y s a c → x ≡ y
same_value f nan y s a c C h k v w = absurd v
same_value f (inf t) y s a c C h k v w = absurd v
same_value f (fin t m e) nan s a c C h k v w = absurd w
same_value f (fin t m e) (inf u) s a c C h k v w = absurd w
same_value f (fin t m e) (fin u n d) s a c C h k v w =
    let l = 2 ^ low f in
    same_units f t u m n e d h k (v.0 ∙ sym w.0)
    (div_same (m * up e * l) (down e) (n * up d * l) (down d) (down_pos e) (down_pos d) (same_fraction (m * up e) (n * up d) (down e) (down d) a c l C v.1 w.1))

-- ---- the values' spacing

further : (p j k : ℕ) → 2 ≤ p → j < k → p + j ≤ p - 1 + k
further p j k h l = omega arith

-- the odd part is below 2 ^ prec, so a value of 2 ^ (prec - 1 + k) units or more is a multiple of 2 ^ k units
pub spaced : (f : Format) (x : Float) (k : ℕ) → T (fits f x) → 2 ^ (prec f - 1 + k) ≤ units_in f x → (y : ℕ) × (units_in f x ≡ y * 2 ^ k)
spaced f nan k h g = absurd (lt_irrefl 0 (lt_of_lt_of_le (pow_pos (prec f - 1 + k)) g))
spaced f (inf s) k h g = absurd (lt_irrefl 0 (lt_of_lt_of_le (pow_pos (prec f - 1 + k)) g))
spaced f (fin s m e) k h g =
    let sh = shifted f s m e h in
    let j = sh.0 in
    let u : units_in f (fin s m e) ≡ m * 2 ^ j = units_of_value f (fin s m e) s (m * 2 ^ j) (refl, sh.1) in
    let l : k ≤ j = le_of_suc-le-suc (lt_of_not-le (λ (g' : suc j ≤ k).
    lt_irrefl (m * 2 ^ j)
    (lt_of_lt_of_le (shl_lt (prec f) j (held f s m e h).digits) (le_trans (pow_mono (further (prec f) j k (two f) g')) (subst (λ (x : ℕ). 2 ^ (prec f - 1 + k) ≤ x) u g))))) in
    (m * 2 ^ (j - k), u ∙ ap (λ (x : ℕ). m * x) (ap (λ (x : ℕ). 2 ^ x) (sym (back j k l)) ∙ pow-add 2 (j - k) k) ∙ sym (mul_assoc m (2 ^ (j - k)) (2 ^ k)))
