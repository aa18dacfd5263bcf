-- The rounding to a whole number. A value's magnitude is a fraction a / c, and `round_in` gives it the whole number q
-- with 2a - c < 2qc ≤ 2a + c: q is no more than a half away from a / c.
-- So no whole number is nearer, and of two that are as near q is the one further from zero. Below 2 ^ prec the format
-- holds every whole number, and a value beyond has no fraction and is
-- its own q: so the format holds q, and nothing is rounded a second time.
use Rattle.std.proofs.Common.{◌≡◌, ℕ, suc, ◌+◌, ◌*◌, ◌/◌, ◌^◌, ◌<◌, ◌≤◌, Bool, true, false, T, ℤ, pos, negsuc, sym, refl, ap, ◌∙◌, subst, ap₂, inl, inr, suc-le-suc, zero-le, le_trans, le_of_eq, le_refl, lt_of_lt_of_le, le_of_lt, lt_irrefl, mul-le-mul_right, zero-lt-suc, mul_assoc, suc-mul, mul_comm, div-lt_iff_lt-mul, add-mul, eq-zero-or-pos, le_antisymm, eq-or-lt_of_le, mul-le-mul_left, mul-pos, lt_of_not-le, zero-mul, mul-one, div-mul-le_self, div-one, mul_left_comm, arith, pow_pos, pow_mono, pow-add}
use native.Mathlib.Nat.{mul-mul-mul_comm, zero-div}
use native.Mathlib.Decide.{dec_le}
use lib.Ieee.{Float, nan, inf, fin, Format, binary64, low, hid, prec, up, down, round, neg, fits, le}
use lib.Ieee.Back.{round_whole, whole_unique}
use lib.Ieee.Exact.{HasValue, round_exact}
use lib.Ieee.Fits.{down_pos, round-fits}
use lib.Ieee.Nearest.{div_mono}
use lib.Ieee.Scale.{overflow}
use Rattle.leaves.specs.Nearest.{gap, NearestWhole}
use Rattle.leaves.specs.Round.{nearest_whole, round_in, round_of}
use Rattle.leaves.proofs.Fractions.{Ordered, le→ordered, none_left, ordered_scaled}
use Rattle.leaves.proofs.Magnitudes.{Most, round_most}
use Rattle.leaves.proofs.Monotone.{round_ordered}
use Rattle.leaves.proofs.Patterns.{round_number}
use Rattle.leaves.proofs.Order.{highest, lowest}
use Rattle.leaves.proofs.Packing.{prec_hid}
use Rattle.leaves.proofs.Signs.{neg_round}
use Rattle.leaves.proofs.Values.{held, units_small, units_zero, units_in}

-- ---- a whole number within a half

step : (n q c : ℕ) → n < q → n * c + c ≤ q * c
step n q c h = subst (λ (x : ℕ). x ≤ q * c) (suc-mul n c) (mul-le-mul_right c h)

module _ (a c q : ℕ) (lo : 2 * (q * c) ≤ 2 * a + c) (hi : 2 * a < 2 * (q * c) + c) where
  within_near : (n : ℕ) → gap (q * c) a ≤ gap (n * c) a
  within_near n = elim (dec_le n q) [
    | yes h ↦ elim (eq-or-lt_of_le h) [ inl e ↦ le_of_eq (ap (λ (x : ℕ). gap (x * c) a) (sym e)) | inr l ↦ omega (arith, step n q c l) ]
    | no h ↦ omega (arith, step q n c (lt_of_not-le h))
  ]

  within_other_sign : (n : ℕ) → gap (q * c) a ≤ n * c + a
  within_other_sign n = elim (eq-zero-or-pos q) [ inl e ↦ omega (arith, ap (λ (x : ℕ). x * c) e, zero-mul c) | inr l ↦ omega (arith, step 0 q c l) ]

  within_away : (n : ℕ) → gap (n * c) a ≡ gap (q * c) a → n ≤ q
  within_away n e = elim (dec_le n q) [ yes h ↦ h | no h ↦ omega (arith, step q n c (lt_of_not-le h)) ]

  within_only : (p : ℕ) → ((n : ℕ) → gap (p * c) a ≤ gap (n * c) a) → ((n : ℕ) → gap (n * c) a ≡ gap (p * c) a → n ≤ p) → p ≡ q
  within_only p h k = le_antisymm (within_away p (le_antisymm (h q) (within_near p))) (k q (le_antisymm (within_near p) (h q)))

-- what `nearest_whole` gives is one, and no more than a itself
module _ (a c : ℕ) (C : 0 < c) where
  reached : 2 * (nearest_whole a c * c) ≤ 2 * a + c
  reached = subst (λ (x : ℕ). x ≤ 2 * a + c) (mul_left_comm (nearest_whole a c) 2 c) (div-mul-le_self (2 * a + c) (2 * c))

  past : 2 * a < 2 * (nearest_whole a c * c) + c
  past = go (nearest_whole a c) ((div-lt_iff_lt-mul (mul-pos (zero-lt-suc 1) C)).0 (le_refl (suc (nearest_whole a c))))
    where
      go : (q : ℕ) → 2 * a + c < suc q * (2 * c) → 2 * a < 2 * (q * c) + c
      go q h = omega (arith, suc-mul q (2 * c), mul_left_comm q 2 c)

  at_most : nearest_whole a c ≤ a
  at_most = go (nearest_whole a c) reached
    where
      go : (q : ℕ) → 2 * (q * c) ≤ 2 * a + c → q ≤ a
      go q h = elim (dec_le q a) [ yes l ↦ l | no l ↦ omega (arith, step a q c (lt_of_not-le l), mul-one a, mul-le-mul_left a C) ]

-- a whole number is its own
itself : (a : ℕ) → nearest_whole a 1 ≡ a
itself a = omega arith

-- ---- the format holds that number

pub round_value : (f : Format) (s : Bool) (m : ℕ) (e : ℤ) → T (fits f (fin s m e)) → HasValue (round_in f (fin s m e)) s (nearest_whole (m * up e) (down e)) 1
unfolding round_in
round_value f s m (pos k) h =
    let e : m * 2 ^ k * 2 ^ low f ≡ m * 2 ^ (k + low f) = mul_assoc m (2 ^ k) (2 ^ low f) ∙ ap (λ (x : ℕ). m * x) (sym (pow-add 2 k (low f))) in
    subst (λ (q : ℕ). HasValue (round f s q 1) s q 1) (sym (itself (m * 2 ^ k)))
    (round_exact f s (m * 2 ^ k) 1 m (k + low f) (zero-lt-suc 0) (held f s m (pos k) h).digits
    (subst (λ (x : ℕ). x < overflow f) (div-one (m * 2 ^ k * 2 ^ low f) ∙ e) (units_small f (fin s m (pos k)) h))
    (e ∙ sym (mul-one (m * 2 ^ (k + low f)))))
round_value f s m (negsuc k) h =
    round_whole f s (nearest_whole (m * 1) (2 ^ suc k))
    (le_trans (at_most (m * 1) (2 ^ suc k) (pow_pos (suc k))) (le_trans (le_of_eq (mul-one m)) (le_of_lt (held f s m (negsuc k) h).digits)))

-- Round: nearest whole number, halves away from zero, sign of zero kept; infinity itself, NaN a NaN.
pub round_nearest : (f : Format) (s : Bool) (m : ℕ) (e : ℤ) → T (fits f (fin s m e)) → NearestWhole (round_in f (fin s m e)) s (m * up e) (down e) (nearest_whole (m * up e) (down e))
round_nearest f s m e h =
    let a = m * up e in
    let c = down e in
    let q = nearest_whole a c in
    let lo = reached a c (down_pos e) in
    let hi = past a c (down_pos e) in
    record {
      value = round_value f s m e h;
      near = within_near a c q lo hi;
      other_sign = within_other_sign a c q lo hi;
      away = within_away a c q lo hi;
      only = within_only a c q lo hi;
    }

pub f64_round_nearest : (s : Bool) (m : ℕ) (e : ℤ) → T (fits binary64 (fin s m e)) → NearestWhole (round_of (fin s m e)) s (m * up e) (down e) (nearest_whole (m * up e) (down e))
unfolding round_of
f64_round_nearest s m e h = round_nearest binary64 s m e h

pub round_in_fits : (f : Format) (x : Float) → T (fits f (round_in f x))
unfolding round_in fits
round_in_fits f nan = tt
round_in_fits f (inf s) = tt
round_in_fits f (fin s m e) = round-fits f s (nearest_whole (m * up e) (down e)) 1

-- a value with no fraction is its own whole number
pub round_whole_value : (f : Format) (s : Bool) (m k : ℕ) → T (fits f (fin s m (pos k))) → round_in f (fin s m (pos k)) ≡ fin s m (pos k)
round_whole_value f s m k h =
    whole_unique f (round_in f (fin s m (pos k))) (fin s m (pos k)) s (m * 2 ^ k) (round_in_fits f (fin s m (pos k))) h
    (subst (λ (q : ℕ). HasValue (round_in f (fin s m (pos k))) s q 1) (itself (m * 2 ^ k)) (round_value f s m (pos k) h))
    (refl, refl)

pub round_special : (f : Format) (s : Bool) → (round_in f nan ≡ nan) × (round_in f (inf s) ≡ inf s) × (round_in f (fin s 0 (pos 0)) ≡ fin s 0 (pos 0))
unfolding round_in fits
round_special f s = (refl, refl, round_whole_value f s 0 0 tt)

-- a zero is itself, however it is written
pub round_zero : (f : Format) (s : Bool) (m : ℕ) (e : ℤ) → T (fits f (fin s m e)) → m * up e ≡ 0 → round_in f (fin s m e) ≡ fin s m e
round_zero f s m e h z =
    let none : units_in f (fin s m e) ≡ 0 = ap (λ (x : ℕ). x * 2 ^ low f / down e) z ∙ ap (λ (x : ℕ). x / down e) (zero-mul (2 ^ low f)) ∙ zero-div (down e) in
    subst (λ (x : Float). round_in f x ≡ x) (sym (units_zero f s m e h none)) (round_special f s).2

-- from 2 ^ (prec - 1) on no value has a fraction
pub round_large : (f : Format) (s : Bool) (m : ℕ) (e : ℤ) → T (fits f (fin s m e)) → hid f * down e ≤ m * up e → round_in f (fin s m e) ≡ fin s m e
round_large f s m (pos k) h l = round_whole_value f s m k h
round_large f s m (negsuc k) h l =
    let more : hid f * 2 ≤ hid f * 2 ^ suc k = mul-le-mul_left (hid f) (pow_mono (suc-le-suc (zero-le {n = k}))) in
    absurd (lt_irrefl m (lt_of_lt_of_le (subst (λ (x : ℕ). m < x) (prec_hid f) (held f s m (negsuc k) h).digits) (le_trans more (le_trans l (le_of_eq (mul-one m))))))

-- ---- the sign

pub round_neg : (f : Format) (x : Float) → round_in f (neg x) ≡ neg (round_in f x)
unfolding round_in neg
round_neg f nan = refl
round_neg f (inf s) = refl
round_neg f (fin s m e) = neg_round f s (nearest_whole (m * up e) (down e)) 1

-- ---- the order: a larger value rounds to no smaller one

nearest_mono : (a c b d : ℕ) → 0 < c → 0 < d → a * d ≤ b * c → nearest_whole a c ≤ nearest_whole b d
nearest_mono a c b d C D h =
    div_mono (2 * a + c) (2 * c) (2 * b + d) (2 * d) (mul-pos (zero-lt-suc 1) C) (mul-pos (zero-lt-suc 1) D)
    (omega (arith, parts a c d, parts b d c, mul_comm c d))
  where
    parts : (a c d : ℕ) → (2 * a + c) * (2 * d) ≡ 4 * (a * d) + 2 * (c * d)
    parts a c d = add-mul (2 * a) c (2 * d) ∙ ap₂ (λ (x y : ℕ). x + y) (mul-mul-mul_comm 2 a 2 d) (mul_left_comm c 2 d)

-- of two fractions in order the whole numbers are in order, and so are the values that they round to
ordered_whole : (s t : Bool) (a c b d : ℕ) → 0 < c → 0 < d → Ordered s (a * d) t (b * c) → Ordered s (nearest_whole a c) t (nearest_whole b d)
ordered_whole false false a c b d C D h = nearest_mono a c b d C D h
ordered_whole false true a c b d C D h = go (a * d) (b * c) (nearest_whole a c) (nearest_whole b d) (λ (l : a * d ≤ 0). le_trans (at_most a c C) (le_of_eq (none_left a d D l))) (λ (l : b * c ≤ 0). le_trans (at_most b d D) (le_of_eq (none_left b c C l))) h
  where
    go : (x y p q : ℕ) → (x ≤ 0 → p ≤ 0) → (y ≤ 0 → q ≤ 0) → y + x ≤ 0 → q + p ≤ 0
    go x y p q f g h = omega (arith, f (omega arith), g (omega arith))
ordered_whole true false a c b d C D h = tt
ordered_whole true true a c b d C D h = nearest_mono b d a c D C h

pub round_in_mono : (f : Format) (x y : Float) → T (le x y) → T (le (round_in f x) (round_in f y))
unfolding le round_in
round_in_mono f nan y l = absurd l
round_in_mono f (inf s) nan l = absurd l
round_in_mono f (inf s) (inf t) l = l
round_in_mono f (inf true) (fin t n d) l = lowest (round_in f (fin t n d)) (round_number f t (nearest_whole (n * up d) (down d)) 1)
round_in_mono f (inf false) (fin t n d) l = absurd l
round_in_mono f (fin s m e) nan l = absurd l
round_in_mono f (fin s m e) (inf true) l = absurd l
round_in_mono f (fin s m e) (inf false) l = highest (round_in f (fin s m e)) (round_number f s (nearest_whole (m * up e) (down e)) 1)
round_in_mono f (fin s m e) (fin t n d) l =
    let p = nearest_whole (m * up e) (down e) in
    let q = nearest_whole (n * up d) (down d) in
    round_ordered f s t p 1 q 1 (zero-lt-suc 0) (zero-lt-suc 0) (ordered_scaled s t p q 1 (ordered_whole s t (m * up e) (down e) (n * up d) (down d) (down_pos e) (down_pos d) (le→ordered s m e t n d l)))

-- ---- the magnitude: a value of at most a whole number rounds to one of at most it

whole_most : (f : Format) (x : Float) (n : ℕ) → n ≤ 2 ^ prec f → Most n x → Most n (round_in f x)
unfolding round_in
whole_most f nan n fit h = h
whole_most f (inf s) n fit h = h
whole_most f (fin s m e) n fit h =
    let p = nearest_whole (m * up e) (down e) in
    round_most f s p 1 n (zero-lt-suc 0) fit (omega (arith, itself n, nearest_mono (m * up e) (down e) n 1 (down_pos e) (zero-lt-suc 0) (le_trans (le_of_eq (mul-one (m * up e))) h)))

-- ---- the same of `round_of`

pub f64_round_mono : (x y : Float) → T (le x y) → T (le (round_of x) (round_of y))
unfolding round_of
f64_round_mono x y l = round_in_mono binary64 x y l

pub f64_round_most : (x : Float) (n : ℕ) → n ≤ 2 ^ prec binary64 → Most n x → Most n (round_of x)
unfolding round_of
f64_round_most x n fit h = whole_most binary64 x n fit h
