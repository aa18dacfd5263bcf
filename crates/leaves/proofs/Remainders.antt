-- The remainder by TAU, worked out by whole numbers. TAU is 7074237752028440 / 2 ^ 50, and so is every value from TAU
-- on a whole number of 2 ^ -50ths; the remainder of the two numbers is the remainder's, and a value of the format, so
-- nothing is rounded. A smaller value that is not negative is its own remainder, and a negative one's has its sign.
use Rattle.std.proofs.Common.{◌≡◌, ℕ, suc, ◌+◌, ◌-◌, ◌*◌, ◌/◌, ◌%◌, ◌^◌, ◌<◌, ◌≤◌, Bool, true, false, not, T, ℤ, pos, negsuc, refl, sym, ap, ◌∙◌, subst, lt_of_lt_of_le, le_trans, mul_assoc, mul-pos, mul-lt-mul_of_pos_right, mul-le-mul_right, mul-le-mul_left, lt_of_mul-lt-mul_right, mod-lt, mod-eq_of_lt, arith, lt→ltb, ltb→lt, nltb→le, T_not, lt_of_not-le, mul-div_cancel, add-zero, add-one, pow-suc, lit<, lit≤, pow_pos, pow_mono, pow-add}
use native.Mathlib.Nat.{mul-mod_left, eq_of_mul-eq-mul_right, le_of_mul-le-mul_right}
use Rattle.std.proofs.lemmas.Float.{T_from_true, T_from_false}
use Rattle.std.proofs.lemmas.Nat.{mul-mod_first}
use lib.Arith.{le→nltb, mod-mul}
use lib.Pow.{shl_lt}
use lib.Ieee.{Float, nan, inf, fin, Format, binary64, emax, low, up, down, round, neg, div, rem, lt, le, of_int, fits, of_bits, to_bits}
use lib.Ieee.Exact.{HasValue, round_exact}
use lib.Ieee.Fits.{down_pos, rem-fits}
use lib.Ieee.Scale.{round_same}
use Rattle.leaves.specs.Constants.{plus_zero, tau}
use Rattle.leaves.proofs.Fractions.{le→ordered, ordered→le}
use Rattle.leaves.proofs.Packing.{Unpacked, above_zero, unpacked}
use Rattle.leaves.proofs.Scaling.{div_of_finite}
use Rattle.leaves.proofs.Signs.{neg_neg, neg_round}
use Rattle.leaves.proofs.Values.{held, same_value, shifted}
use Rattle.leaves.proofs.Wraps.{tau_value, tau_is}

-- TAU in 2 ^ -50ths
abbrev pub tau_parts : ℕ
tau_parts = 7074237752028440

-- ---- remainders of whole numbers

mod_scaled : (a b k : ℕ) → 0 < b → 0 < k → a * k % (b * k) ≡ a % b * k
mod_scaled a b k B K = mod-mul (a * k) B K ∙ rw (mul-div_cancel a K, mul-mod_left a k) (add-zero (a % b * k))

-- one doubling more, reduced
pub doubled : (a k n : ℕ) → n ≡ a * 2 ^ k % tau_parts → n * 2 % tau_parts ≡ a * 2 ^ (k + 1) % tau_parts
doubled a k n e = rw (e, add-one, pow-suc, ← mul_assoc) (mul-mod_first (a * 2 ^ k) 2 tau_parts)

-- ---- a value from TAU on

-- what the bits of such a value say of it, in 2 ^ -1074ths
tau_below : (x : Float) (a c : ℕ) → 0 < c → HasValue x false a c → T (le tau_value x) → 884279719003555 * c ≤ a * 2 ^ 47
tau_below nan a c C v l = absurd v
tau_below (inf s) a c C v l = absurd v
tau_below (fin true m e) a c C v l = absurd (turned v.0)
  where
    turned : true ≡ false → ⊥
    turned q = cc
tau_below (fin false m e) a c C v l =
    let order : 884279719003555 * 1 * down e ≤ m * up e * 2 ^ 47 = le→ordered false 884279719003555 (negsuc 46) false m e l in
    le_of_mul-le-mul_right (le_trans (le_trans (same (down e) c) (mul-le-mul_right c order)) (swapped v.1)) (down_pos e)
  where
    same : (d c : ℕ) → 884279719003555 * c * d ≤ 884279719003555 * 1 * d * c
    same d c = omega arith

    swapped : m * up e * c ≡ a * down e → m * up e * 2 ^ 47 * c ≤ a * 2 ^ 47 * down e
    swapped q = omega (arith, ap (λ (z : ℕ). z * 2 ^ 47) q)

-- from TAU on the exponent's field is 1025 or more
not_less : (k n : ℕ) → (k < n → ⊥) → n ≤ k
not_less k n h = omega arith

pub field_least : (x : Float) (w k : ℕ) → w < 2 ^ 53 → HasValue x false (w * 2 ^ k) (2 ^ 1074) → T (le tau_value x) → 1024 ≤ k
field_least x w k small v l = not_less k 1024 (λ less. clash (w * 2 ^ k) (mul-le-mul_left w (pow_mono (down_one k less))) (tau_below x (w * 2 ^ k) (2 ^ 1074) (pow_pos 1074) v l))
  where
    down_one : (k : ℕ) → k < 1024 → k ≤ 1023
    down_one k h = omega arith

    -- in 2 ^ 1023rds TAU is 2 ^ 51 times what it is in 2 ^ 1074ths
    apart : (p z : ℕ) → 0 < p → z ≤ w * p → 884279719003555 * (2 ^ 51 * p) ≤ z * 2 ^ 47 → ⊥
    apart p z P h q = omega (arith, mul-lt-mul_of_pos_right small P)

    clash : (z : ℕ) → z ≤ w * 2 ^ 1023 → 884279719003555 * 2 ^ 1074 ≤ z * 2 ^ 47 → ⊥
    clash z h q = apart (2 ^ 1023) z (pow_pos 1023) h (subst (λ (n : ℕ). 884279719003555 * n ≤ z * 2 ^ 47) (pow-add 2 51 1023) q)

-- and its remainder is that of two whole numbers of 2 ^ -50ths
pub rem_from_tau : (x : Float) (w j : ℕ) → HasValue x false (w * 2 ^ (1024 + j)) (2 ^ 1074) → rem binary64 x tau_value ≡ round binary64 false (w * 2 ^ j % tau_parts) (2 ^ 50)
unfolding rem
rem_from_tau nan w j v = absurd v
rem_from_tau (inf s) w j v = absurd v
rem_from_tau (fin s m e) w j v =
    let D : 0 < down e = down_pos e in
    let r = m * up e * 2 ^ 47 % (884279719003555 * 1 * down e) in
    ap (λ (b : Bool). round binary64 b r (down e * 2 ^ 47)) v.0
    ∙ round_same binary64 false r (down e * 2 ^ 47) (w * 2 ^ j % tau_parts) (2 ^ 50) (mul-pos D (pow_pos 47)) (pow_pos 50) (level (down e) D (m * up e) (in_parts (m * up e) (down e) v.1))
  where
    -- as many 2 ^ -50ths as w * 2 ^ j
    in_parts : (a d : ℕ) → a * 2 ^ 1074 ≡ w * 2 ^ (1024 + j) * d → a * 2 ^ 50 ≡ w * 2 ^ j * d
    in_parts a d q = eq_of_mul-eq-mul_right (2 ^ 1024) (pow_pos 1024) (a * 2 ^ 50) (w * 2 ^ j * d) (shift a (2 ^ 1024) (2 ^ 50) ∙ ap (λ (n : ℕ). a * n) (sym (pow-add 2 1024 50)) ∙ q ∙ ap (λ (n : ℕ). w * n * d) (pow-add 2 1024 j) ∙ turn w (2 ^ 1024) (2 ^ j) d)
      where
        shift : (a p q : ℕ) → a * q * p ≡ a * (p * q)
        shift a p q = omega arith

        turn : (w p q d : ℕ) → w * (p * q) * d ≡ w * q * d * p
        turn w p q d = omega arith

    level : (d : ℕ) → 0 < d → (a : ℕ) → a * 2 ^ 50 ≡ w * 2 ^ j * d → a * 2 ^ 47 % (884279719003555 * 1 * d) * 2 ^ 50 ≡ w * 2 ^ j % tau_parts * (d * 2 ^ 47)
    level d D a q =
        let same : a * 2 ^ 47 % (884279719003555 * 1 * d) * 8 ≡ w * 2 ^ j % tau_parts * d =
        sym (mod_scaled (a * 2 ^ 47) (884279719003555 * 1 * d) 8 (over d D) (lit< tt))
        ∙ ap (λ (n : ℕ). n % (884279719003555 * 1 * d * 8)) (eights a ∙ q)
        ∙ ap (λ (n : ℕ). w * 2 ^ j * d % n) (whole d)
        ∙ mod_scaled (w * 2 ^ j) tau_parts d (lit< tt) D in
        widen _ _ d same
      where
        over : (d : ℕ) → 0 < d → 0 < 884279719003555 * 1 * d
        over d h = omega arith

        eights : (a : ℕ) → a * 2 ^ 47 * 8 ≡ a * 2 ^ 50
        eights a = omega arith

        whole : (d : ℕ) → 884279719003555 * 1 * d * 8 ≡ tau_parts * d
        whole d = omega arith

        widen : (r y d : ℕ) → r * 8 ≡ y * d → r * 2 ^ 50 ≡ y * (d * 2 ^ 47)
        widen r y d h = omega (arith, ap (λ (z : ℕ). z * 2 ^ 47) h)

-- ---- what the bits say of a value from TAU on

tau_above : (x : Float) → T (le tau_value x) → T (lt (fin false 0 (pos 0)) x)
unfolding lt le
tau_above nan l = absurd l
tau_above (inf true) l = absurd l
tau_above (inf false) l = tt
tau_above (fin true m e) l = absurd (none (m * up e * 2 ^ 47) (down e) (down_pos e) (le→ordered false 884279719003555 (negsuc 46) true m e l))
  where
    none : (a d : ℕ) → 0 < d → a + 884279719003555 * 1 * d ≤ 0 → ⊥
    none a d D h = omega arith
tau_above (fin false m e) l = lt→ltb (0 * 2 ^ 0 * down e) (m * up e * 1) (some (m * up e) (down e) (down_pos e) (le→ordered false 884279719003555 (negsuc 46) false m e l))
  where
    some : (a d : ℕ) → 0 < d → 884279719003555 * 1 * d ≤ a * 2 ^ 47 → 0 * 2 ^ 0 * d < a * 1
    some a d D h = omega arith

-- its field and the rest of its bits
pub record FromTau (x : Float) (field t : ℕ) : Type 0 where
  pub infinite : field ≡ 2047 → rem binary64 x tau ≡ nan
  pub least : (field ≡ 2047 → ⊥) → 1025 ≤ field
  pub remainder : (field ≡ 2047 → ⊥) → rem binary64 x tau ≡ round binary64 false ((2 ^ 52 + t) * 2 ^ (field - 1025) % tau_parts) (2 ^ 50)

module _ (x : Float) (field t : ℕ) (few : t < 2 ^ 52) (u : Unpacked binary64 x field t) (l : T (le tau_value x)) where
  no_zero : field ≡ 0 → ⊥
  no_zero z = small (field_least x t 0 (room t few) (subst (λ (n : ℕ). HasValue x false n (2 ^ 1074)) (one t) (u.subnormal z).1) l)
    where
      small : 1024 ≤ 0 → ⊥
      small q = omega arith

      room : (t : ℕ) → t < 2 ^ 52 → t < 2 ^ 53
      room t q = omega arith

      one : (t : ℕ) → t ≡ t * 2 ^ 0
      one t = omega arith

  enough : (field ≡ 2047 → ⊥) → 1024 ≤ field - 1
  enough n = field_least x (2 ^ 52 + t) (field - 1) (room t few) (u.normal n no_zero) l
    where
      room : (t : ℕ) → t < 2 ^ 52 → 2 ^ 52 + t < 2 ^ 53
      room t q = omega arith

  from_fields : FromTau x field t
  from_fields = record {
    infinite = λ e. nothing (u.infinite e);
    least = λ n. up field (enough n);
    remainder = λ n. ap (rem binary64 x) tau_is ∙ rem_from_tau x (2 ^ 52 + t) (field - 1025) (subst (λ (k : ℕ). HasValue x false ((2 ^ 52 + t) * 2 ^ k) (2 ^ 1074)) (back field (enough n)) (u.normal n no_zero));
  }
    where
      nothing : x ≡ inf false → rem binary64 x tau ≡ nan
      nothing e = unfold rem in rw e

      up : (k : ℕ) → 1024 ≤ k - 1 → 1025 ≤ k
      up k q = omega arith

      back : (k : ℕ) → 1024 ≤ k - 1 → k - 1 ≡ 1024 + (k - 1025)
      back k q = omega arith

pub from_tau : (x : Float) → T (fits binary64 x) → T (le tau x) → FromTau x (to_bits binary64 x / 2 ^ 52) (to_bits binary64 x % 2 ^ 52)
from_tau x h l =
    let more = subst (λ (y : Float). T (le y x)) tau_is l in
    from_fields x (to_bits binary64 x / 2 ^ 52) (to_bits binary64 x % 2 ^ 52) (mod-lt (to_bits binary64 x) (lit< tt)) (unpacked binary64 x h (above_zero x (tau_above x more))).1 more

-- ---- a count of 2 ^ -50ths as a value

pub parts_value : (n : ℕ) → n < 2 ^ 53 → div binary64 (of_int binary64 (pos n)) (of_bits binary64 0x4310000000000000) ≡ round binary64 false n (2 ^ 50)
unfolding of_int of_bits
parts_value n small = go (round binary64 false n 1) (round_exact binary64 false n 1 n 1074 (lit< tt) small (lt_of_lt_of_le (shl_lt 53 1074 small) (pow_mono {i = 53 + 1074} {j = 1074 + 1024} (lit≤ tt))) (one (n * 2 ^ 1074)))
  where
    one : (z : ℕ) → z ≡ z * 1
    one z = omega arith

    go : (y : Float) → HasValue y false n 1 → div binary64 y (fin false 1 (pos 50)) ≡ round binary64 false n (2 ^ 50)
    go nan v = absurd v
    go (inf s) v = absurd v
    go (fin s m e) v =
        div_of_finite binary64 (fin false 1 (pos 50)) tt s m e
        ∙ ap (λ (b : Bool). round binary64 b (m * up e * 1) (down e * 2 ^ 50)) v.0
        ∙ round_same binary64 false (m * up e * 1) (down e * 2 ^ 50) n (2 ^ 50) (mul-pos (down_pos e) (pow_pos 50)) (pow_pos 50) (ap (λ (z : ℕ). z * 2 ^ 50) v.1 ∙ mul_assoc n (down e) (2 ^ 50))

-- ---- a value that is not from TAU on, nor negative

-- a value of the format is what rounding makes of its fraction
fits_own_value : (f : Format) (s : Bool) (m : ℕ) (e : ℤ) → T (fits f (fin s m e)) → HasValue (round f s (m * up e) (down e)) s (m * up e) (down e)
fits_own_value f s m e h =
    let j = shifted f s m e h in
    let k = held f s m e h in
    round_exact f s (m * up e) (down e) m j.0 (down_pos e) k.digits
    (lt_of_mul-lt-mul_right (down e) (bound (m * 2 ^ j.0) (m * up e) (2 ^ low f) (2 ^ suc (emax f)) (down e) (pow_pos (low f)) j.1 k.below (pow-add 2 (low f) (suc (emax f)))))
    j.1
  where
    bound : (z a l t d : ℕ) → 0 < l → a * l ≡ z * d → a < t * d → {p : ℕ} → p ≡ l * t → z * d < p * d
    bound z a l t d L q h e = rw e (omega (arith, q, mul-lt-mul_of_pos_right h L))

rem_small : (s : Bool) (m : ℕ) (e : ℤ) → T (fits binary64 (fin s m e)) → m * up e * 2 ^ 47 < 884279719003555 * 1 * down e → rem binary64 (fin s m e) tau_value ≡ fin s m e
unfolding rem
rem_small s m e h less =
    let D : 0 < down e = down_pos e in
    same_value binary64 (rem binary64 (fin s m e) tau_value) (fin s m e) s (m * up e) (down e) D (rem-fits binary64 (fin s m e) tau_value h) h
    (subst (λ (y : Float). HasValue y s (m * up e) (down e))
    (sym (ap (λ (n : ℕ). round binary64 s n (down e * 2 ^ 47)) (mod-eq_of_lt less) ∙ round_same binary64 s (m * up e * 2 ^ 47) (down e * 2 ^ 47) (m * up e) (down e) (mul-pos D (pow_pos 47)) D (shift (m * up e) (down e) (2 ^ 47))))
    (fits_own_value binary64 s m e h))
    (refl, refl)
  where
    shift : (a d k : ℕ) → a * k * d ≡ a * (d * k)
    shift a d k = omega arith

below_tau : (x : Float) → T (fits binary64 x) → T (not (lt x plus_zero)) → T (not (le tau_value x)) → rem binary64 x tau_value ≡ x
unfolding lt le of_bits
below_tau nan h z b = unfold rem in refl
below_tau (inf true) h z b = absurd z
below_tau (inf false) h z b = absurd b
below_tau (fin false m e) h z b = rem_small false m e h (lt_of_not-le (λ q. T_not (le tau_value (fin false m e)) b (ordered→le false 884279719003555 (negsuc 46) false m e q)))
below_tau (fin true m e) h z b = rem_small true m e h (none (m * up e) (down e) (down_pos e) (nltb→le 0 (m * up e * 1 + 0 * 2 ^ 0 * down e) z))
  where
    none : (a d : ℕ) → 0 < d → a * 1 + 0 * 2 ^ 0 * d ≤ 0 → a * 2 ^ 47 < 884279719003555 * 1 * d
    none a d D h = omega arith

pub rem_below_tau : (x : Float) → fits binary64 x ≡ true → T (not (lt x plus_zero)) → le tau x ≡ false → rem binary64 x tau ≡ x
rem_below_tau x h z b = ap (rem binary64 x) tau_is ∙ below_tau x (T_from_true _ h) z (subst (λ (y : Float). T (not (le y x))) tau_is (T_from_false _ b))

-- ---- the sign

neg_below : (x : Float) → T (lt x plus_zero) → T (not (lt (neg x) plus_zero))
unfolding lt of_bits neg
neg_below nan h = absurd h
neg_below (inf true) h = tt
neg_below (inf false) h = absurd h
neg_below (fin true m e) h = le→nltb (m * up e * 1) (0 * 2 ^ 0 * down e) (omega arith)
neg_below (fin false m e) h = absurd (omega (arith, ltb→lt (m * up e * 1) (0 * 2 ^ 0 * down e) h))

pub neg_not_below : (x : Float) → lt x plus_zero ≡ true → T (not (lt (neg x) plus_zero))
neg_not_below x h = neg_below x (T_from_true _ h)

neg_rem : (x : Float) → neg (rem binary64 (neg x) tau_value) ≡ rem binary64 x tau_value
unfolding rem neg
neg_rem nan = refl
neg_rem (inf s) = refl
neg_rem (fin s m e) = ap neg (neg_round binary64 s (m * up e * 2 ^ 47 % (884279719003555 * 1 * down e)) (down e * 2 ^ 47)) ∙ neg_neg _

pub rem_neg : (x : Float) → neg (rem binary64 (neg x) tau) ≡ rem binary64 x tau
rem_neg x = ap (λ (y : Float). neg (rem binary64 (neg x) y)) tau_is ∙ neg_rem x ∙ sym (ap (rem binary64 x) tau_is)
