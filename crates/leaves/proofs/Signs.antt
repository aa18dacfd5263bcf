-- Which operations give no -0 and no negative value. A sum whose first part is not -0 is not -0: the exact sum of two
-- values that a format holds is a whole number of the
-- format's smallest value, so where it is not 0 it does not round to 0, and an exact 0 is -0 only where both parts are
-- negative. A square, and a sum of two values that are not negative, has no sign.
-- Of the other sign a fraction rounds to the same magnitude, and 0 to the zero of its sign. A zero of either sign adds
-- the same to a value without a sign.
use Rattle.std.proofs.Common.{◌≡◌, ℕ, zero, suc, ◌+◌, ◌-◌, ◌*◌, ◌/◌, ◌%◌, ◌^◌, ◌<◌, ◌≤◌, Bool, true, false, cond, not, ◌&&◌, T, ltb, ℤ, pos, sym, refl, ap, ◌∙◌, subst, ap₂, true≢false, le_trans, le_of_eq, lt_of_lt_of_le, add-zero, lt_irrefl, mul-le-mul_right, suc-mul, mul_comm, add-mul, lt_of_mul-lt-mul_right, mul-lt-mul_of_pos_right, mul-pos, one-mul, lt_of_not-le, le-div_iff_mul-le, zero-mul, arith, ltb→lt, pow_pos, pow_mono, le-ltb}
use Prim.Native.Nat.{compare}
use native.Mathlib.Nat.{div-div-eq-div-mul, mul-sub}
use lib.Ieee.{Float, nan, inf, fin, Format, prec, emax, low, up, down, size, odd, units, round, neg, sum, add, sub, mul, fits}
use lib.Ieee.Digits.{size-lt, size_reaches}
use lib.Ieee.Exact.{HasValue, odd_sign, round_exact}
use lib.Ieee.Fits.{down_pos, neg-fits, round-fits, round_is, two, two-le_pos}
use lib.Ieee.Nearest.{closest, nearest-ge}
use lib.Ieee.Scale.{overflow}
use Rattle.leaves.proofs.Order.{minus_zero, negative_units}
use Rattle.leaves.proofs.Values.{same_value, sign, units_over, units_over_swapped, units_in}

-- ---- the sign of what is rounded

odd_signed : (d : ℕ) (s : Bool) (q k l : ℕ) → sign (odd d s q k l) ≡ s
unfolding odd
odd_signed d s zero k l = refl
odd_signed d s (suc q) k l = refl

units_signed : (f : Format) (s : Bool) (q k : ℕ) → sign (units f s q k) ≡ s
unfolding units
units_signed f s q k = go (ltb (q * 2 ^ k) (overflow f))
  where
    go : (b : Bool) → sign (cond b (odd (suc (prec f)) s q k (low f)) (inf s)) ≡ s
    go true = odd_signed (suc (prec f)) s q k (low f)
    go false = refl

pub round_sign : (f : Format) (s : Bool) (num den : ℕ) → sign (round f s num den) ≡ s
round_sign f s num den = ap sign (round_is f s num den) ∙ units_signed f s (closest (num * 2 ^ low f) (den * 2 ^ (size (num * 2 ^ low f / den) - prec f))) (size (num * 2 ^ low f / den) - prec f)

-- 0 / c keeps its sign
pub round_of_none : (f : Format) (s : Bool) (c : ℕ) → 0 < c → round f s 0 c ≡ fin s 0 (pos 0)
unfolding fits
round_of_none f s c C =
    same_value f (round f s 0 c) (fin s 0 (pos 0)) s 0 c C (round-fits f s 0 c) tt
    (round_exact f s 0 c 0 0 C (pow_pos (prec f)) (pow_pos (low f + suc (emax f))) (zero-mul (2 ^ low f) ∙ sym (zero-mul c)))
    (refl, zero-mul c ∙ sym (zero-mul 1))

neg_odd : (d : ℕ) (s : Bool) (q k l : ℕ) → odd d (not s) q k l ≡ neg (odd d s q k l)
unfolding odd neg
neg_odd d s zero k l = refl
neg_odd d s (suc q) k l = refl

neg_units : (f : Format) (s : Bool) (q k : ℕ) → units f (not s) q k ≡ neg (units f s q k)
unfolding units neg
neg_units f s q k = go (ltb (q * 2 ^ k) (overflow f))
  where
    go : (b : Bool) → cond b (odd (suc (prec f)) (not s) q k (low f)) (inf (not s)) ≡ neg (cond b (odd (suc (prec f)) s q k (low f)) (inf s))
    go true = neg_odd (suc (prec f)) s q k (low f)
    go false = refl

-- the other sign rounds to the same magnitude
pub neg_neg : (x : Float) → neg (neg x) ≡ x
unfolding neg
neg_neg nan = refl
neg_neg (inf true) = refl
neg_neg (inf false) = refl
neg_neg (fin true m e) = refl
neg_neg (fin false m e) = refl

pub neg_round : (f : Format) (s : Bool) (num den : ℕ) → round f (not s) num den ≡ neg (round f s num den)
neg_round f s num den = round_is f (not s) num den ∙ neg_units f s _ _ ∙ ap neg (sym (round_is f s num den))

pub clear_of_sign : (x : Float) → sign x ≡ false → T (not (minus_zero x))
clear_of_sign nan h = tt
clear_of_sign (inf s) h = tt
clear_of_sign (fin false m e) h = tt
clear_of_sign (fin true m e) h = absurd (true≢false h)

-- ---- what is one unit at least does not round to 0

clear_of_value : (x : Float) (s : Bool) (a c : ℕ) → 0 < a → HasValue x s a c → T (not (minus_zero x))
clear_of_value nan s a c h v = tt
clear_of_value (inf t) s a c h v = tt
clear_of_value (fin false m e) s a c h v = tt
clear_of_value (fin true (suc m) e) s a c h v = tt
clear_of_value (fin true zero e) s a c h v = absurd (lt_irrefl 0 (subst (λ (x : ℕ). 0 < x) (sym v.1 ∙ ap (λ (x : ℕ). x * c) (zero-mul (up e)) ∙ zero-mul c) (mul-pos h (down_pos e))))

units_clear : (f : Format) (s : Bool) (q k : ℕ) → 0 < q → T (not (minus_zero (units f s q k)))
unfolding units
units_clear f s q k h = go (ltb (q * 2 ^ k) (overflow f))
  where
    go : (b : Bool) → T (not (minus_zero (cond b (odd (suc (prec f)) s q k (low f)) (inf s))))
    go true = clear_of_value (odd (suc (prec f)) s q k (low f)) s (q * 2 ^ k) (2 ^ low f) (mul-pos h (pow_pos k)) (odd_sign (suc (prec f)) s q k (low f))
    go false = tt

fewer : (z p : ℕ) → 0 < p → 0 < z → z - p < z
fewer z p h k = omega arith

-- not all the digits of a number are dropped
kept_pos : (p w : ℕ) → 0 < p → 0 < w → 0 < w / 2 ^ (size w - p)
kept_pos p w P W =
    let Z : 0 < size w = lt_of_not-le (λ (g : size w ≤ 0). lt_irrefl w (lt_of_lt_of_le (size-lt w) (le_trans (pow_mono g) W))) in
    (le-div_iff_mul-le (pow_pos (size w - p))).1 (le_trans (le_of_eq (one-mul (2 ^ (size w - p)))) (size_reaches w (size w - p) (fewer (size w) p P Z)))

pub round_clear : (f : Format) (s : Bool) (num den : ℕ) → 0 < den → den ≤ num * 2 ^ low f → T (not (minus_zero (round f s num den)))
round_clear f s num den D h =
    let n = num * 2 ^ low f in
    let k = size (n / den) - prec f in
    let u = den * 2 ^ k in
    let w : 0 < n / den = (le-div_iff_mul-le D).1 (le_trans (le_of_eq (one-mul den)) h) in
    let q : 0 < n / u = subst (λ (x : ℕ). 0 < x) (div-div-eq-div-mul n den (2 ^ k)) (kept_pos (prec f) (n / den) (two-le_pos (prec f) (two f)) w) in
    subst (λ (x : Float). T (not (minus_zero x))) (sym (round_is f s num den)) (units_clear f s (closest n u) k (lt_of_lt_of_le q (nearest-ge (n / u) (compare (n % u * 2) u))))

-- ---- sums

-- a / c and b / c are u and v units, and a unit is 1 / l
gap : (a b u v l c : ℕ) → 0 < l → a * l ≡ u * c → b * l ≡ v * c → a < b → c ≤ (b - a) * l
gap a b u v l c L p q h =
    let less : u * c < v * c = subst (λ (x : ℕ). x < v * c) p (subst (λ (x : ℕ). a * l < x) q (mul-lt-mul_of_pos_right h L)) in
    let more : u * c + c ≤ v * c = subst (λ (x : ℕ). x ≤ v * c) (suc-mul u c) (mul-le-mul_right c (lt_of_mul-lt-mul_right c less)) in
    let parts : (b - a) * l ≡ b * l - a * l = mul_comm (b - a) l ∙ mul-sub l b a ∙ ap₂ (λ (x y : ℕ). x - y) (mul_comm l b) (mul_comm l a) in
    omega arith

together : (a b u v l c : ℕ) → a * l ≡ u * c → b * l ≡ v * c → 0 < u + v → c ≤ (a + b) * l
together a b u v l c p q h = omega (arith, add-mul a b l, add-mul u v c, mul-le-mul_right c h)

sum_clear : (f : Format) (s : Bool) (a : ℕ) (t : Bool) (b u v c : ℕ) → 0 < c → a * 2 ^ low f ≡ u * c → b * 2 ^ low f ≡ v * c → (T s → T t → 0 < u + v) → T (not (minus_zero (sum f s a t b c)))
unfolding sum
sum_clear f false a false b u v c C p q h = clear_of_sign (round f false (a + b) c) (round_sign f false (a + b) c)
sum_clear f true a true b u v c C p q h = round_clear f true (a + b) c C (together a b u v (2 ^ low f) c p q (h tt tt))
sum_clear f false a true b u v c C p q h = go (ltb a b) (ltb→lt a b)
  where
    go : (less : Bool) → (T less → a < b) → T (not (minus_zero (cond less (round f true (b - a) c) (round f false (a - b) c))))
    go true k = round_clear f true (b - a) c C (gap a b u v (2 ^ low f) c (pow_pos (low f)) p q (k tt))
    go false k = clear_of_sign (round f false (a - b) c) (round_sign f false (a - b) c)
sum_clear f true a false b u v c C p q h = go (ltb a b) (ltb b a) (ltb→lt b a)
  where
    go : (less more : Bool) → (T more → b < a) → T (not (minus_zero (cond less (round f false (b - a) c) (round f more (a - b) c))))
    go true more k = clear_of_sign (round f false (b - a) c) (round_sign f false (b - a) c)
    go false true k = round_clear f true (a - b) c C (gap b a v u (2 ^ low f) c (pow_pos (low f)) q p (k tt))
    go false false k = clear_of_sign (round f false (a - b) c) (round_sign f false (a - b) c)

-- of two negative values that are not both -0, one has units
some_negative : (f : Format) (s : Bool) (m : ℕ) (e : ℤ) (t : Bool) (n : ℕ) (d : ℤ) → T (fits f (fin s m e)) → T (fits f (fin t n d)) → T (not (minus_zero (fin s m e) && minus_zero (fin t n d)))
    → T s → T t → 0 < units_in f (fin s m e) + units_in f (fin t n d)
some_negative f true zero e true zero d h k z p q = absurd z
some_negative f true zero e true (suc n) d h k z p q = let u = negative_units f (suc n) d k tt in omega arith
some_negative f true (suc m) e true n d h k z p q = let u = negative_units f (suc m) e h tt in omega arith
some_negative f false m e t n d h k z p q = absurd p
some_negative f true m e false n d h k z p q = absurd q

-- a sum is -0 only of two -0
pub sum_of_clear : (f : Format) (x y : Float) → T (fits f x) → T (fits f y) → T (not (minus_zero x && minus_zero y)) → T (not (minus_zero (add f x y)))
unfolding add
sum_of_clear f nan y h k z = tt
sum_of_clear f (inf s) nan h k z = tt
sum_of_clear f (inf true) (inf true) h k z = tt
sum_of_clear f (inf true) (inf false) h k z = tt
sum_of_clear f (inf false) (inf true) h k z = tt
sum_of_clear f (inf false) (inf false) h k z = tt
sum_of_clear f (inf s) (fin t n d) h k z = tt
sum_of_clear f (fin s m e) nan h k z = tt
sum_of_clear f (fin s m e) (inf t) h k z = tt
sum_of_clear f (fin s m e) (fin t n d) h k z =
    sum_clear f s (m * up e * down d) t (n * up d * down e) (units_in f (fin s m e)) (units_in f (fin t n d)) (down e * down d) (mul-pos (down_pos e) (down_pos d))
    (units_over f s m e (down d) h) (units_over_swapped f t n d (down e) k) (some_negative f s m e t n d h k z)

not_first : (a b : Bool) → T (not a) → T (not (a && b))
not_first true b h = absurd h
not_first false b h = tt

not_second : (a b : Bool) → T (not b) → T (not (a && b))
not_second true b h = h
not_second false b h = tt

-- x + y and x - y are not -0 where x is not
pub add_clear : (f : Format) (x y : Float) → T (fits f x) → T (fits f y) → T (not (minus_zero x)) → T (not (minus_zero (add f x y)))
add_clear f x y h k z = sum_of_clear f x y h k (not_first (minus_zero x) (minus_zero y) z)

-- nor where y is not, or is not +0 in a difference
pub add_clear_second : (f : Format) (x y : Float) → T (fits f x) → T (fits f y) → T (not (minus_zero y)) → T (not (minus_zero (add f x y)))
add_clear_second f x y h k z = sum_of_clear f x y h k (not_second (minus_zero x) (minus_zero y) z)

pub sub_clear_second : (f : Format) (x y : Float) → T (fits f x) → T (fits f y) → T (not (minus_zero (neg y))) → T (not (minus_zero (sub f x y)))
unfolding sub
sub_clear_second f x y h k z = add_clear_second f x (neg y) h (neg-fits f y k) z

-- ---- a zero added to what has no sign: the zero's own sign does not show

sum_none : (f : Format) (a : ℕ) (s : Bool) (c : ℕ) → sum f false a s 0 c ≡ round f false a c
unfolding sum
sum_none f a false c = ap (λ (n : ℕ). round f false n c) (add-zero a)
sum_none f a true c = let e : a - 0 ≡ a = omega arith in rw (le-ltb a 0 (omega arith), e)

pub add_any_zero : (f : Format) (x : Float) → sign x ≡ false → (s t : Bool) → add f x (fin s 0 (pos 0)) ≡ add f x (fin t 0 (pos 0))
unfolding add
add_any_zero f nan h s t = refl
add_any_zero f (inf u) h s t = refl
add_any_zero f (fin true m e) h s t = absurd (true≢false h)
add_any_zero f (fin false m e) h s t =
    let a = m * up e * 1 in
    let c = down e * 1 in
    let none : 0 * down e ≡ 0 = zero-mul (down e) in
    ap (λ (b : ℕ). sum f false a s b c) none ∙ sum_none f a s c ∙ sym (ap (λ (b : ℕ). sum f false a t b c) none ∙ sum_none f a t c)

-- ---- no sign

-- a value that the format holds and that has no sign: neither negative nor -0. It may be a NaN.
pub record Unsigned (f : Format) (x : Float) : Type 0 where
  pub held : T (fits f x)
  pub plain : sign x ≡ false

pub add_positive : (f : Format) (x y : Float) → sign x ≡ false → sign y ≡ false → sign (add f x y) ≡ false
unfolding add sum
add_positive f nan y h k = refl
add_positive f (inf s) nan h k = refl
add_positive f (inf true) (inf t) h k = absurd (true≢false h)
add_positive f (inf false) (inf true) h k = refl
add_positive f (inf false) (inf false) h k = refl
add_positive f (inf s) (fin t n d) h k = h
add_positive f (fin s m e) nan h k = refl
add_positive f (fin s m e) (inf t) h k = k
add_positive f (fin true m e) (fin t n d) h k = absurd (true≢false h)
add_positive f (fin false m e) (fin true n d) h k = absurd (true≢false k)
add_positive f (fin false m e) (fin false n d) h k = round_sign f false (m * up e * down d + n * up d * down e) (down e * down d)

pub square_positive : (f : Format) (x : Float) → sign (mul f x x) ≡ false
unfolding mul
square_positive f nan = refl
square_positive f (inf true) = refl
square_positive f (inf false) = refl
square_positive f (fin true m e) = round_sign f false (m * up e * (m * up e)) (down e * down e)
square_positive f (fin false m e) = round_sign f false (m * up e * (m * up e)) (down e * down e)
