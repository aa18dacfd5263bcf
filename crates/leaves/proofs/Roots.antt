-- "Root: IEEE 754 square root, nearest, ties to even." For every finite value above zero no value of the format is
-- nearer to the exact root than `root_in` gives (`root_nearest`), and a value with that property is what `root_in`
-- gives (`root_only`): so there is never a tie. A value whose square is x exactly is the root of x (`root_exact`).
-- X is x in units of the smallest value, n = X * 2 ^ (low + 2) the number whose whole root r is taken, in half units,
-- and G the root in units. Assumes nothing.
use Rattle.std.proofs.Common.{◌≡◌, ℕ, zero, suc, ◌+◌, ◌-◌, ◌*◌, ◌/◌, ◌%◌, ◌^◌, ◌<◌, ◌≤◌, Bool, true, false, not, T, ltb, ℤ, pos, sym, refl, ap, ◌∙◌, subst, inl, inr, true≢false, suc-le-suc, zero-le, le_trans, le_of_eq, le_refl, lt_of_lt_of_le, le_of_suc-le-suc, le-add_right, lt_of_le_of_lt, le_of_lt, add-le-add, lt_irrefl, zero-lt-suc, mul_assoc, mul_comm, add_comm, le_antisymm, eq-or-lt_of_le, mul-le-mul_left, mul-lt-mul_of_pos_right, mul-pos, pow-suc, lt_of_not-le, zero-add, mul-one, mul_right_comm, not-le_of_lt, le_of_mul-le-mul_right, sub-le, arith, lit≤, ltb→lt, nltb→le, pow_pos, pow_mono, pow-add}
use native.Mathlib.Nat.{eq_of_mul-eq-mul_right, le-suc}
use lib.Arith.{lt_of_le-ne, add-lt_cancel_left}
use lib.Pow.{pow-lt}
use lib.Ieee.{Float, nan, inf, fin, is_nan, Format, binary32, binary64, prec, emax, low, up, down, round, lt, fits}
use lib.Ieee.Exact.{HasValue, round_exact}
use lib.Ieee.Fits.{up_pos, down_pos, nan-fits, inf-fits}
use lib.Ieee.Positive.{positive, first_pos}
use lib.Ieee.Scale.{finite, grid, overflow, round_val}
use Rattle.leaves.specs.Root.{whole_root, sticky, rounded, square_units, root_in, root_of}
use Rattle.leaves.specs.Nearest.{units_in, four_times, Nearer, NearestRoot}
use Rattle.leaves.proofs.Squares.{PowerSquare, square_suc, square_twice, square_mono, square_lt, power_square}
use Rattle.leaves.proofs.WholeRoots.{below_next, is_root, root_is, halves, sticky_cases, sticky_le}
use Rattle.leaves.proofs.Rounding.{rounded_is, quarter}
use Rattle.leaves.proofs.Closest.{midpoint_below, midpoint_above, grid_small, grid_some}
use Rattle.leaves.proofs.PackedRoots.{rounded_fits, root_of_value}
use Rattle.leaves.proofs.Values.{zero_units, held as in_format, odd, same_units, shifted, own_units, units_of_value, units_small}
use Rattle.leaves.proofs.Order.{lt→place, place→lt}

-- ---- the root of n, rounded, in units

wide : (f : Format) → 3 ≤ emax f
wide binary32 = lit≤ tt
wide binary64 = lit≤ tt

module _ (f : Format) (X : ℕ) (small : X < overflow f) where
  -- n / 2 ^ (2 * low) is 4 x
  four : X * 2 ^ (low f + 2) ≡ 4 * (X * 2 ^ low f)
  four = ap (λ (z : ℕ). X * z) (pow-add 2 (low f) 2) ∙ sym (mul_assoc X (2 ^ low f) 4) ∙ mul_comm (X * 2 ^ low f) 4

  root_small : whole_root (X * 2 ^ (low f + 2)) < 2 ^ (low f + emax f)
  root_small =
      let l = low f in
      let E = emax f in
      square_lt (lt_of_le_of_lt (is_root (X * 2 ^ (l + 2))).reached
      (lt_of_lt_of_le (mul-lt-mul_of_pos_right small (pow_pos (l + 2)))
      (le_trans (le_of_eq (sym (pow-add 2 (l + suc E) (l + 2)))) (le_trans (pow_mono (room l E (wide f))) (le_of_eq (pow-add 2 (l + E) (l + E)))))))
    where
      room : (l E : ℕ) → 3 ≤ E → l + suc E + (l + 2) ≤ l + E + (l + E)
      room l E h = omega arith

  in_range : grid f (halves (X * 2 ^ (low f + 2))) (2 ^ (low f + 2)) < overflow f
  in_range =
      let n = X * 2 ^ (low f + 2) in
      let g = grid_small f (halves n) (2 ^ (low f + 2)) in
      let top : 2 ^ (low f + emax f) < 2 ^ (low f + suc (emax f)) = pow-lt (next (low f) (emax f)) in
      bound (whole_root n) (sticky n) (grid f (halves n) (2 ^ (low f + 2))) (2 ^ (low f + emax f)) (overflow f) (sticky_le n) (subst (λ (z : ℕ). grid f (halves n) (2 ^ (low f + 2)) ≤ 2 * z + 1) (quarter f (halves n)) g) root_small top
    where
      next : (l E : ℕ) → l + E < l + suc E
      next l E = omega arith

      bound : (r s G M O : ℕ) → s ≤ 1 → G ≤ 2 * ((2 * r + s) / 4) + 1 → r < M → M < O → G < O
      bound r s G M O a b c d = omega arith

  value : HasValue (rounded f (X * 2 ^ (low f + 2))) false (grid f (halves (X * 2 ^ (low f + 2))) (2 ^ (low f + 2))) (2 ^ low f)
  value =
      let P = halves (X * 2 ^ (low f + 2)) in
      subst (λ (z : Float). HasValue z false (grid f P (2 ^ (low f + 2))) (2 ^ low f)) (sym (rounded_is f (X * 2 ^ (low f + 2)))) (round_val f P (2 ^ (low f + 2)) in_range)

  -- a sum that is at most the fraction's double has a square that is at most n, and the other way round
  sum_below : (S : ℕ) → S * 2 ^ (low f + 2) ≤ 2 * (halves (X * 2 ^ (low f + 2)) * 2 ^ low f) → S * S ≤ 4 * (X * 2 ^ low f)
  sum_below S h =
      let n = X * 2 ^ (low f + 2) in
      let x : S * 4 * 2 ^ low f ≤ 2 * halves n * 2 ^ low f =
      le_trans (le_of_eq (mul_right_comm S 4 (2 ^ low f) ∙ mul_assoc S (2 ^ low f) 4 ∙ ap (λ (z : ℕ). S * z) (sym (pow-add 2 (low f) 2)))) (le_trans h (le_of_eq (sym (mul_assoc 2 (halves n) (2 ^ low f))))) in
      let y : S * 4 ≤ 2 * halves n = le_of_mul-le-mul_right x (pow_pos (low f)) in
      le_trans (square_mono (half S (whole_root n) (sticky n) (sticky_le n) y)) (le_trans (is_root n).reached (le_of_eq four))
    where
      half : (S r s : ℕ) → s ≤ 1 → S * 4 ≤ 2 * (2 * r + s) → S ≤ r
      half S r s a b = omega arith

  sum_above : (S : ℕ) → 2 * (halves (X * 2 ^ (low f + 2)) * 2 ^ low f) ≤ S * 2 ^ (low f + 2) → 4 * (X * 2 ^ low f) ≤ S * S
  sum_above S h =
      let n = X * 2 ^ (low f + 2) in
      let x : 2 * halves n * 2 ^ low f ≤ S * 4 * 2 ^ low f =
      le_trans (le_of_eq (mul_assoc 2 (halves n) (2 ^ low f))) (le_trans h (le_of_eq (ap (λ (z : ℕ). S * z) (pow-add 2 (low f) 2) ∙ sym (mul_assoc S (2 ^ low f) 4) ∙ mul_right_comm S (2 ^ low f) 4))) in
      let y : 2 * halves n ≤ S * 4 = le_of_mul-le-mul_right x (pow_pos (low f)) in
      le_trans (le_of_eq (sym four))
      (elim (sticky_cases n) [
        | inl c ↦ le_trans (le_of_eq (sym c.0)) (square_mono (exact S (whole_root n) (sticky n) y))
        | inr c ↦ le_of_lt (lt_of_lt_of_le (is_root n).past (square_mono (inexact S (whole_root n) (sticky n) c.1 y)))
      ])
    where
      exact : (S r s : ℕ) → 2 * (2 * r + s) ≤ S * 4 → r ≤ S
      exact S r s h = omega arith

      inexact : (S r s : ℕ) → s ≡ 1 → 2 * (2 * r + s) ≤ S * 4 → r + 1 ≤ S
      inexact S r s e h = omega arith

-- ---- no value is nearer

zero_held : (f : Format) → T (fits f (fin false zero (pos 0)))
unfolding fits
zero_held f = tt

-- of two values without a sign the lesser has fewer units
fewer : (f : Format) (m n : ℕ) (e d : ℤ) → T (fits f (fin false m e)) → T (fits f (fin false n d)) → T (lt (fin false m e) (fin false n d)) → units_in f (fin false m e) < units_in f (fin false n d)
fewer f m n e d h k l = add-lt_cancel_left (overflow f) (lt→place f (fin false m e) (fin false n d) h k l)

unsigned_not_less : (m n : ℕ) (e d : ℤ) → T (lt (fin false m e) (fin true n d)) → ⊥
unfolding lt
unsigned_not_less m n e d h = h

-- the root of x in units
abbrev pub root_units : Format → Float → ℕ
root_units f x = grid f (halves (units_in f x * 2 ^ (low f + 2))) (2 ^ (low f + 2))

module _ (f : Format) (x : Float) (held : T (fits f x)) where
  -- a value of Y units below the root, or above it
  sum_with_less : (y : Float) → T (fits f y) → units_in f y < root_units f x → (units_in f y + root_units f x) * (units_in f y + root_units f x) ≤ four_times f x
  sum_with_less y h l =
      sum_below f (units_in f x) (units_small f x held) (units_in f y + root_units f x) (midpoint_below f (halves (units_in f x * 2 ^ (low f + 2))) (2 ^ (low f + 2)) (pow_pos (low f + 2)) y h l)

  sum_with_more : (y : Float) → T (fits f y) → root_units f x < units_in f y → four_times f x ≤ (units_in f y + root_units f x) * (units_in f y + root_units f x)
  sum_with_more y h l =
      sum_above f (units_in f x) (units_small f x held) (units_in f y + root_units f x) (midpoint_above f (halves (units_in f x * 2 ^ (low f + 2))) (2 ^ (low f + 2)) (pow_pos (low f + 2)) y h l)

  -- the root's own square is at most four times x
  own_square : root_units f x * root_units f x ≤ four_times f x
  own_square = go (root_units f x) (subst (λ (z : ℕ). z < root_units f x → (z + root_units f x) * (z + root_units f x) ≤ four_times f x) (zero_units f false (pos 0)) (sum_with_less (fin false zero (pos 0)) (zero_held f)))
    where
      go : (g : ℕ) → (0 < g → (0 + g) * (0 + g) ≤ four_times f x) → g * g ≤ four_times f x
      go zero h = zero-le
      go (suc g) h = subst (λ (z : ℕ). z * z ≤ four_times f x) (zero-add (suc g)) (h (zero-lt-suc g))

  -- no value is nearer than a g that has the root's units and no sign
  none_nearer_than : (g y : Float) → HasValue g false (root_units f x) (2 ^ low f) → T (fits f g) → T (fits f y) → T (finite y) → Nearer f x g y → ⊥
  none_nearer_than nan y v p q r c = absurd v
  none_nearer_than (inf s) y v p q r c = absurd v
  none_nearer_than (fin true m e) y v p q r c = absurd (true≢false v.0)
  none_nearer_than (fin false m e) nan v p q r c = absurd r
  none_nearer_than (fin false m e) (inf t) v p q r c = absurd r
  none_nearer_than (fin false m e) (fin false k d) v p q r (inl c) =
      let u = units_of_value f (fin false m e) false (root_units f x) v in
      let Y = units_in f (fin false k d) in
      not-le_of_lt c.1 (subst (λ (z : ℕ). (Y + z) * (Y + z) ≤ four_times f x) (sym u) (sum_with_less (fin false k d) q (subst (λ (z : ℕ). Y < z) u (fewer f k m d e q p c.0))))
  none_nearer_than (fin false m e) (fin false k d) v p q r (inr c) =
      let u = units_of_value f (fin false m e) false (root_units f x) v in
      let Y = units_in f (fin false k d) in
      not-le_of_lt c.1 (subst (λ (z : ℕ). four_times f x ≤ (Y + z) * (Y + z)) (sym u) (sum_with_more (fin false k d) q (subst (λ (z : ℕ). z < Y) u (fewer f m k e d p q c.0))))
  none_nearer_than (fin false m e) (fin true k d) v p q r (inl c) =
      let u = units_of_value f (fin false m e) false (root_units f x) v in
      let Y = units_in f (fin true k d) in
      not-le_of_lt c.1 (le_trans (square_mono (sub-le (units_in f (fin false m e)) Y)) (subst (λ (z : ℕ). z * z ≤ four_times f x) (sym u) own_square))
  none_nearer_than (fin false m e) (fin true k d) v p q r (inr c) = absurd (unsigned_not_less m k e d c.0)

-- ---- the theorem

finite_value : (x : Float) (s : Bool) (a c : ℕ) → HasValue x s a c → T (finite x)
finite_value nan s a c v = absurd v
finite_value (inf t) s a c v = absurd v
finite_value (fin t m e) s a c v = tt

pub some_units : (f : Format) (x : Float) → T (fits f x) → T (positive x) → 0 < units_in f x
some_units f nan held p = absurd p
some_units f (inf s) held p = absurd p
some_units f (fin true m e) held p = absurd p
some_units f (fin false m e) held p =
    first_pos (units_in f (fin false m e)) (down e) (subst (λ (z : ℕ). 0 < z) (own_units f false m e held).1 (mul-pos (mul-pos (ltb→lt 0 m p) (up_pos e)) (pow_pos (low f))))

pub root_is_rounded : (f : Format) (x : Float) → T (fits f x) → T (positive x) → root_in f x ≡ rounded f (units_in f x * 2 ^ (low f + 2))
root_is_rounded f nan held p = absurd p
root_is_rounded f (inf s) held p = absurd p
root_is_rounded f (fin true m e) held p = absurd p
root_is_rounded f (fin false m e) held p =
    root_of_value f (fin false m e) (units_in f (fin false m e)) (low f) (low f + 2) (some_units f (fin false m e) held p) (own_units f false m e held) (twice (low f))
  where
    twice : (l : ℕ) → 2 * (l + 1) ≡ l + (l + 2)
    twice l = omega arith

-- the root has its units and no sign
pub root_value : (f : Format) (x : Float) → T (fits f x) → T (positive x) → HasValue (root_in f x) false (root_units f x) (2 ^ low f)
root_value f nan held p = absurd p
root_value f (inf s) held p = absurd p
root_value f (fin true m e) held p = absurd p
root_value f (fin false m e) held p =
    let x = fin false m e in
    subst (λ (z : Float). HasValue z false (root_units f x) (2 ^ low f)) (sym (root_is_rounded f x held p)) (value f (units_in f x) (units_small f x held))

pub root_held : (f : Format) (x : Float) → T (fits f x) → T (fits f (root_in f x))
unfolding root_in
root_held f nan held = nan-fits f
root_held f (inf true) held = nan-fits f
root_held f (inf false) held = inf-fits f false
root_held f (fin true zero e) held = held
root_held f (fin true (suc m) e) held = nan-fits f
root_held f (fin false zero e) held = held
root_held f (fin false (suc m) e) held = rounded_fits f (square_units f (suc m * up e) (down e))

pub root_nearest : (f : Format) (x : Float) → T (fits f x) → T (positive x) → NearestRoot f x (root_in f x)
root_nearest f x held p =
    let v = root_value f x held p in
    let g = root_held f x held in
    record { held = g; number = finite_value (root_in f x) false (root_units f x) (2 ^ low f) v; none_nearer = λ y q r c. none_nearer_than f x held (root_in f x) y v g q r c }

-- ---- where the root is exact

doubled : (t b c : ℕ) → 2 * (t * (b * 2)) * c ≡ t * b * (c * 4)
doubled t b c = ap (λ (z : ℕ). 2 * z * c) (sym (mul_assoc t b 2)) ∙ ap (λ (z : ℕ). z * c) (four_of (t * b)) ∙ mul_right_comm (t * b) 4 c ∙ mul_assoc (t * b) c 4
  where
    four_of : (q : ℕ) → 2 * (q * 2) ≡ q * 4
    four_of q = omega arith

at_most_square : (t : ℕ) → t ≤ t * t
at_most_square zero = zero-le
at_most_square (suc t) = le_trans (le_of_eq (sym (mul-one (suc t)))) (mul-le-mul_left (suc t) (suc-le-suc zero-le))

-- nothing is rounded where the root in half units is t * 2 ^ (k + 1) with few digits
few_digits : (f : Format) (r t k : ℕ) → r ≡ t * 2 ^ suc k → t < 2 ^ prec f → r < 2 ^ (low f + emax f) → HasValue (round f false (2 * r) (2 ^ (low f + 2))) false (2 * r) (2 ^ (low f + 2))
few_digits f r t k e few small =
    round_exact f false (2 * r) (2 ^ (low f + 2)) t k (pow_pos (low f + 2)) few
    (lt_of_le_of_lt (le_trans (mul-le-mul_left t (pow_mono (le-suc k))) (le_of_eq (sym e))) (lt_of_lt_of_le small (pow_mono (next (low f) (emax f)))))
    (ap (λ (z : ℕ). 2 * z * 2 ^ low f) (e ∙ ap (λ (z : ℕ). t * z) (pow-suc 2 k)) ∙ doubled t (2 ^ k) (2 ^ low f) ∙ ap (λ (z : ℕ). t * 2 ^ k * z) (sym (pow-add 2 (low f) 2)))
  where
    next : (l E : ℕ) → l + E ≤ l + suc E
    next l E = omega arith

exact_halves : (n r : ℕ) → r * r ≡ n → (whole_root n ≡ r) × (halves n ≡ 2 * r)
exact_halves n r sq =
    let e : whole_root n ≡ r = root_is n r (record { reached = le_of_eq sq; past = subst (λ (z : ℕ). z < (r + 1) * (r + 1)) sq (more r) }) in (
      e,
      elim (sticky_cases n) [
        | inl c ↦ omega (arith, c.1)
        | inr c ↦ absurd (lt_irrefl n (subst (λ (z : ℕ). z < n) (ap (λ (z : ℕ). z * z) e ∙ sq) c.0))
      ],
    )
  where
    more : (r : ℕ) → r * r < (r + 1) * (r + 1)
    more r = omega (arith, square_suc r)

-- Where n is r * r, r is t * 2 ^ l with t * t the odd part of x, which is below 2 ^ prec: so the root is exact.
exact_value : (f : Format) (X odd i r : ℕ) → X < overflow f → X ≡ odd * 2 ^ i → odd % 2 ≡ 1 → odd < 2 ^ prec f → r * r ≡ X * 2 ^ (low f + 2)
    → HasValue (rounded f (X * 2 ^ (low f + 2))) false (2 * r) (2 ^ (low f + 2))
exact_value f X odd i r small x o few sq =
    let n = X * 2 ^ (low f + 2) in
    let s : r * r ≡ odd * 2 ^ (i + (low f + 2)) = sq ∙ ap (λ (z : ℕ). z * 2 ^ (low f + 2)) x ∙ mul_assoc odd (2 ^ i) (2 ^ (low f + 2)) ∙ ap (λ (z : ℕ). odd * z) (sym (pow-add 2 i (low f + 2))) in
    let h = exact_halves n r sq in
    subst (λ (z : Float). HasValue z false (2 * r) (2 ^ (low f + 2))) (sym (rounded_is f n ∙ ap (λ (z : ℕ). round f false z (2 ^ (low f + 2))) h.1))
    (go (power_square (i + (low f + 2)) odd r o s) (subst (λ (z : ℕ). z < 2 ^ (low f + emax f)) h.0 (root_small f X small)))
  where
    no_less : (a b : ℕ) → a + (b + 2) ≡ 0 + 0 → ⊥
    no_less a b h = omega arith

    with_power : (t l : ℕ) → r ≡ t * 2 ^ l → i + (low f + 2) ≡ l + l → t * t ≡ odd → r < 2 ^ (low f + emax f) → HasValue (round f false (2 * r) (2 ^ (low f + 2))) false (2 * r) (2 ^ (low f + 2))
    with_power t zero e d q b = absurd (no_less i (low f) d)
    with_power t (suc k) e d q b = few_digits f r t k e (lt_of_le_of_lt (le_trans (at_most_square t) (le_of_eq q)) few) b

    go : PowerSquare r odd (i + (low f + 2)) → r < 2 ^ (low f + emax f) → HasValue (round f false (2 * r) (2 ^ (low f + 2))) false (2 * r) (2 ^ (low f + 2))
    go d b = with_power d.t d.l d.whole d.twice d.square b

-- in units: twice the root is r
exact_units : (f : Format) (x : Float) → T (fits f x) → T (positive x) → (r : ℕ) → r * r ≡ four_times f x → 2 * root_units f x ≡ r
exact_units f nan held p r sq = absurd p
exact_units f (inf s) held p r sq = absurd p
exact_units f (fin true m e) held p r sq = absurd p
exact_units f (fin false zero e) held p r sq = absurd p
exact_units f (fin false (suc m) e) held p r sq =
    let x = fin false (suc m) e in
    let X = units_in f x in
    let j = shifted f false (suc m) e held in
    let whole : X ≡ suc m * 2 ^ j.0 = units_of_value f x false (suc m * 2 ^ j.0) (refl, j.1) in
    halved (rounded f (X * 2 ^ (low f + 2))) (exact_value f X (suc m) j.0 r (units_small f x held) whole (odd f false m e held) (in_format f false (suc m) e held).digits (sq ∙ sym (four f X (units_small f x held)))) (value f X (units_small f x held))
  where
    half : (r G : ℕ) → 2 * r ≡ 4 * G → 2 * G ≡ r
    half r G h = omega arith

    halved : (y : Float) → HasValue y false (2 * r) (2 ^ (low f + 2)) → HasValue y false (root_units f (fin false (suc m) e)) (2 ^ low f) → 2 * root_units f (fin false (suc m) e) ≡ r
    halved nan v w = absurd v
    halved (inf s) v w = absurd v
    halved (fin s k d) v w =
        let G = root_units f (fin false (suc m) e) in
        let z : 2 * r * down d ≡ 4 * G * down d =
        sym v.1 ∙ ap (λ (z : ℕ). k * up d * z) (pow-add 2 (low f) 2) ∙ sym (mul_assoc (k * up d) (2 ^ low f) 4) ∙ ap (λ (z : ℕ). z * 4) w.1 ∙ mul_comm (G * down d) 4 ∙ sym (mul_assoc 4 G (down d)) in
        half r G (eq_of_mul-eq-mul_right (down d) (down_pos d) (2 * r) (4 * G) z)

-- ---- the only nearest value

root_some : (f : Format) (x : Float) → T (fits f x) → T (positive x) → 0 < root_units f x
root_some f x held p =
    let X = units_in f x in
    let n = X * 2 ^ (low f + 2) in
    grid_some f (halves n) (2 ^ (low f + 2)) (pow_pos (low f + 2)) (subst (λ (z : ℕ). 0 < z) (sym (quarter f (halves n))) (enough (whole_root n) (sticky n) (two_at_least n (large X (2 ^ low f) (some_units f x held p) (pow_pos (low f)) (four f X (units_small f x held))))))
  where
    enough : (r s : ℕ) → 2 ≤ r → 0 < (2 * r + s) / 4
    enough r s h = omega arith

    large : {n : ℕ} (X l : ℕ) → 0 < X → 0 < l → n ≡ 4 * (X * l) → 4 ≤ n
    large X l a b e = le_trans (mul-le-mul_left 4 (mul-pos a b)) (le_of_eq (sym e))

    two_at_least : (n : ℕ) → 4 ≤ n → 2 ≤ whole_root n
    two_at_least n h = below_next 2 (whole_root n) (square_lt (lt_of_le_of_lt h (is_root n).past))

-- the root's own square is below four times x: at equality the root would be twice itself
own_square_below : (f : Format) (x : Float) → T (fits f x) → T (positive x) → root_units f x * root_units f x < four_times f x
own_square_below f x held p = lt_of_le-ne (own_square f x held) (λ e. not_twice (root_units f x) (root_some f x held p) (exact_units f x held p (root_units f x) e))
  where
    not_twice : (g : ℕ) → 0 < g → 2 * g ≡ g → ⊥
    not_twice g h e = omega arith

-- two values without a sign, one of them the root, that are equally near to the exact root are the same
no_tie : (f : Format) (x : Float) → T (fits f x) → T (positive x) → (Y : ℕ) → (Y + root_units f x) * (Y + root_units f x) ≡ four_times f x → Y ≡ root_units f x
no_tie f x held p Y e = same Y (root_units f x) (exact_units f x held p (Y + root_units f x) e)
  where
    same : (Y G : ℕ) → 2 * G ≡ Y + G → Y ≡ G
    same Y G h = omega arith

not_lt : {a b : ℕ} → (b < a → ⊥) → a ≤ b
not_lt {a} {b} h = le_of_suc-le-suc (lt_of_not-le h)

add_lt : (o a b : ℕ) → a < b → o + a < o + b
add_lt o a b h = omega arith

module _ (f : Format) (x : Float) (held : T (fits f x)) (p : T (positive x)) where
  -- g0 is the root, g any value that is nearest
  only_nearest : (g0 g : Float) → HasValue g0 false (root_units f x) (2 ^ low f) → T (fits f g0) → NearestRoot f x g → g ≡ g0
  only_nearest nan g v q r = absurd v
  only_nearest (inf s) g v q r = absurd v
  only_nearest (fin true m e) g v q r = absurd (true≢false v.0)
  only_nearest (fin false m e) nan v q r = absurd r.number
  only_nearest (fin false m e) (inf t) v q r = absurd r.number
  only_nearest (fin false m e) (fin true k d) v q r =
      let u = units_of_value f (fin false m e) false (root_units f x) v in
      let G = units_in f (fin false m e) in
      let Y = units_in f (fin true k d) in
      let less : T (lt (fin true k d) (fin false m e)) =
      place→lt f (fin true k d) (fin false m e) r.held q (unfold is_nan in tt) (apart (overflow f) Y G (subst (λ (z : ℕ). 0 < z) (sym u) (root_some f x held p)) (units_small f (fin true k d) r.held)) in
      absurd (r.none_nearer (fin false m e) q tt (inr (less, lt_of_le_of_lt (square_mono (sub-le G Y)) (subst (λ (z : ℕ). z * z < four_times f x) (sym u) (own_square_below f x held p)))))
    where
      apart : (o a b : ℕ) → 0 < b → a < o → o - a < o + b
      apart o a b h l = omega arith
  only_nearest (fin false m e) (fin false k d) v q r = go (ltb Y G) (ltb→lt Y G) (nltb→le Y G)
    where
      G : ℕ
      G = units_in f (fin false m e)

      Y : ℕ
      Y = units_in f (fin false k d)

      u : G ≡ root_units f x
      u = units_of_value f (fin false m e) false (root_units f x) v

      tie : (Y + G) * (Y + G) ≡ four_times f x → Y ≡ G
      tie t = no_tie f x held p Y (subst (λ (z : ℕ). (Y + z) * (Y + z) ≡ four_times f x) u t) ∙ sym u

      less : Y < G → Y ≡ G
      less l =
          tie (le_antisymm
          (subst (λ (z : ℕ). (Y + z) * (Y + z) ≤ four_times f x) (sym u) (sum_with_less f x held (fin false k d) r.held (subst (λ (z : ℕ). Y < z) u l)))
          (subst (λ (z : ℕ). four_times f x ≤ z * z) (add_comm G Y) (not_lt (λ b. r.none_nearer (fin false m e) q tt (inr (place→lt f (fin false k d) (fin false m e) r.held q (unfold is_nan in tt) (add_lt (overflow f) Y G l), b))))))

      more : G < Y → Y ≡ G
      more l =
          tie (le_antisymm
          (subst (λ (z : ℕ). z * z ≤ four_times f x) (add_comm G Y) (not_lt (λ b. r.none_nearer (fin false m e) q tt (inl (place→lt f (fin false m e) (fin false k d) q r.held (unfold is_nan in tt) (add_lt (overflow f) G Y l), b)))))
          (subst (λ (z : ℕ). four_times f x ≤ (Y + z) * (Y + z)) (sym u) (sum_with_more f x held (fin false k d) r.held (subst (λ (z : ℕ). z < Y) u l))))

      go : (b : Bool) → (T b → Y < G) → (T (not b) → G ≤ Y) → fin false k d ≡ fin false m e
      go true h n = same_units f false false k m d e r.held q refl (less (h tt))
      go false h n = same_units f false false k m d e r.held q refl (elim (eq-or-lt_of_le (n tt)) [ inl e ↦ sym e | inr l ↦ more l ])

pub root_only : (f : Format) (x g : Float) → T (fits f x) → T (positive x) → NearestRoot f x g → g ≡ root_in f x
root_only f x g held p r = only_nearest f x held p (root_in f x) g (root_value f x held p) (root_held f x held) r

-- ---- a value whose square is x exactly, g * g = x in units, is the root of x

module _ (f : Format) (x : Float) (m : ℕ) (e : ℤ) (g_held : T (fits f (fin false m e))) (square : units_in f (fin false m e) * units_in f (fin false m e) ≡ units_in f x * 2 ^ low f) where
  H : ℕ
  H = units_in f (fin false m e)

  twice_square : (H + H) * (H + H) ≡ four_times f x
  unfolding H
  twice_square = ap (λ (z : ℕ). z * z) (double H) ∙ square_twice H ∙ ap (λ (z : ℕ). 4 * z) square
    where
      double : (h : ℕ) → h + h ≡ 2 * h
      double h = omega arith

  none_nearer_than_exact : (y : Float) → T (fits f y) → T (finite y) → Nearer f x (fin false m e) y → ⊥
  unfolding H
  none_nearer_than_exact nan q r c = absurd r
  none_nearer_than_exact (inf s) q r c = absurd r
  none_nearer_than_exact (fin false k d) q r (inl c) = not-le_of_lt c.1 (le_trans (square_mono (add-le-add (le_of_lt (fewer f k m d e q g_held c.0)) (le_refl H))) (le_of_eq twice_square))
  none_nearer_than_exact (fin false k d) q r (inr c) = not-le_of_lt c.1 (le_trans (le_of_eq (sym twice_square)) (square_mono (add-le-add (le_of_lt (fewer f m k e d g_held q c.0)) (le_refl H))))
  none_nearer_than_exact (fin true k d) q r (inl c) = not-le_of_lt c.1 (le_trans (square_mono (le_trans (sub-le H (units_in f (fin true k d))) (le-add_right H H))) (le_of_eq twice_square))
  none_nearer_than_exact (fin true k d) q r (inr c) = unsigned_not_less m k e d c.0

  pub root_exact : T (fits f x) → T (positive x) → fin false m e ≡ root_in f x
  root_exact held p = root_only f x (fin false m e) held p (record { held = g_held; number = tt; none_nearer = none_nearer_than_exact })

-- ---- the same of f64, as the contract of `root` names it
-- "Root: IEEE 754 square root, nearest, ties to even": of a finite x above 0, `root_of x` is the nearest f64 to the
-- exact root, and the only one, so no tie is left to break.

pub f64_root_nearest : (x : Float) → T (fits binary64 x) → T (positive x) → NearestRoot binary64 x (root_of x)
unfolding root_of
f64_root_nearest x held p = root_nearest binary64 x held p

pub f64_root_only : (x g : Float) → T (fits binary64 x) → T (positive x) → NearestRoot binary64 x g → g ≡ root_of x
unfolding root_of
f64_root_only x g held p r = root_only binary64 x g held p r
