-- `round f false a c` is the value of the format that is nearest to a / c: of any other value y, the midpoint of the
-- two lies on y's side of a / c, or at it.
-- In units of the format's smallest value: G is the rounded value, Y any value that fits, and n = a * 2 ^ low, so that
-- n / c is the fraction in units. Assumes nothing.
use Rattle.std.proofs.Common.{◌≡◌, ℕ, zero, suc, ◌+◌, ◌-◌, ◌*◌, ◌/◌, ◌%◌, ◌^◌, ◌<◌, ◌≤◌, T, ◌⊎◌, sym, refl, ap, ◌∙◌, subst, inl, inr, le_trans, le_of_eq, le_of_suc-le-suc, le-add_right, le_of_lt, mul-le-mul_right, mod-lt, mul_assoc, suc-mul, mul_comm, add-mul, lt_of_mul-lt-mul_right, mul-pos, one-mul, lt_of_not-le, div-add-mod', le-div_iff_mul-le, mul-one, not-le_of_lt, div-mul-le_self, add-one, add-one-le, arith, pow_pos, pow-add}
use Prim.Native.Nat.{compare, Ordering}
use native.Mathlib.Nat.{div-div-eq-div-mul}
use lib.Ieee.{Float, Format, prec, low, size, nearest, fits}
use lib.Ieee.Digits.{size_reaches}
use lib.Ieee.Nearest.{closest}
use lib.Ieee.Order.{drop, kept}
use lib.Ieee.Scale.{grid}
use lib.Ieee.Fits.{nearest-le, two}
use Rattle.leaves.proofs.Values.{units_in, spaced}
use Rattle.leaves.proofs.Rounding.{Says, says}

-- ---- a whole number is within half a step of the fraction that it is nearest to, and is its whole part or one more

record Near (n u q : ℕ) : Type 0 where
  under : 2 * n ≤ (2 * q + 1) * u
  over : 2 * q * u ≤ 2 * n + u
  part : (q ≡ n / u) ⊎ (q ≡ n / u + 1)

near : (n u : ℕ) → 0 < u → Near n u (closest n u)
near n u pos = go (n / u) (n % u) (compare (n % u * 2) u) (says (n % u * 2) u) (div-add-mod' n u) (mod-lt n pos) refl
  where
    twice : (q : ℕ) → 2 * q * u ≡ 2 * (q * u)
    twice q = mul_assoc 2 q u

    more : (q : ℕ) → (2 * q + 1) * u ≡ 2 * (q * u) + u
    more q = simp (add-mul, one-mul, mul_assoc)

    next : (q : ℕ) → (q + 1) * u ≡ q * u + u
    next q = simp (add-mul, one-mul)

    down : (Q r : ℕ) → Q * u + r ≡ n → r * 2 ≤ u → (Q ≡ n / u) → Near n u Q
    down Q r e h p = record { under = omega (arith, more Q); over = omega (arith, twice Q); part = inl p }

    up : (Q r : ℕ) → Q * u + r ≡ n → u ≤ r * 2 → r < u → (Q ≡ n / u) → Near n u (Q + 1)
    up Q r e h l p = record { under = omega (arith, more (Q + 1), next Q); over = omega (arith, twice (Q + 1), next Q); part = inr (omega arith) }

    tie : (Q r : ℕ) → Q * u + r ≡ n → r * 2 ≡ u → r < u → (Q ≡ n / u) → (b : ℕ) → Q % 2 ≡ b → Near n u (Q + b)
    tie Q r e h l p zero x = subst (Near n u) (zero_more Q) (down Q r e (le_of_eq h) p)
      where
        zero_more : (a : ℕ) → a ≡ a + 0
        zero_more a = omega arith
    tie Q r e h l p (suc b) x = subst (Near n u) (one_more Q b x) (up Q r e (le_of_eq (sym h)) l p)
      where
        one_more : (a b : ℕ) → a % 2 ≡ suc b → a + 1 ≡ a + suc b
        one_more a b x = omega arith

    go : (Q r : ℕ) (o : Ordering) → Says o (r * 2) u → Q * u + r ≡ n → r < u → Q ≡ n / u → Near n u (nearest Q o)
    go Q r Ordering.lt s e l p = down Q r e (le_of_lt s) p
    go Q r Ordering.eq s e l p = tie Q r e s l p (Q % 2) refl
    go Q r Ordering.gt s e l p = subst (Near n u) (add-one Q) (up Q r e (le_of_lt s) l p)

-- ---- between two neighbouring steps no value fits

-- a fraction whose digits are dropped has all the digits that the format keeps
all_digits : (f : Format) (w k : ℕ) → size w - prec f ≡ suc k → 2 ^ (prec f - 1) ≤ w / 2 ^ suc k
all_digits f w k e =
    (le-div_iff_mul-le (pow_pos (suc k))).1
    (subst (λ (x : ℕ). x ≤ w) (pow-add 2 (prec f - 1) (suc k)) (size_reaches w (prec f - 1 + suc k) (inside (size w) (prec f) (two f) e)))
  where
    inside : (z p : ℕ) → 2 ≤ p → z - p ≡ suc k → p - 1 + suc k < z
    inside z p t e = omega arith

-- a value above w's whole part in steps of 2 ^ k is a whole step above it
next_step : (f : Format) (y : Float) (w k : ℕ) → T (fits f y) → size w - prec f ≡ k → w / 2 ^ k * 2 ^ k < units_in f y → (w / 2 ^ k + 1) * 2 ^ k ≤ units_in f y
next_step f y w zero h e l = omega (arith, mul-one (w / 2 ^ 0 + 1), mul-one (w / 2 ^ 0))
next_step f y w (suc k) h e l =
    let Q = w / 2 ^ suc k in
    let p = 2 ^ suc k in
    let far : 2 ^ (prec f - 1 + suc k) ≤ units_in f y =
    le_trans (le_of_eq (pow-add 2 (prec f - 1) (suc k))) (le_trans (mul-le-mul_right p (all_digits f w k e)) (le_of_lt l)) in
    let s = spaced f y (suc k) h far in
    let more : Q < s.0 = lt_of_mul-lt-mul_right p (subst (λ (x : ℕ). Q * p < x) s.1 l) in
    subst (λ (x : ℕ). (Q + 1) * p ≤ x) (sym s.1) (mul-le-mul_right p (add-one-le more))

-- ---- the rounded value

-- The rounded value q * p in steps of p, the fraction n / c, its whole part Q in steps, and a value of Y units that
-- does not lie between the steps Q and Q + 1.
module _ (n c p q Q Y : ℕ) (c_pos : 0 < c) (p_pos : 0 < p) (near_n : Near n (c * p) q) (part : n / (c * p) ≡ Q) (step : Q * p < Y → (Q + 1) * p ≤ Y) where
  in_steps : (x : ℕ) → x * p * c ≡ x * (c * p)
  in_steps x = mul_assoc x p c ∙ ap (λ (z : ℕ). x * z) (mul_comm p c)

  reached : Q * (c * p) ≤ n
  reached = subst (λ (z : ℕ). z * (c * p) ≤ n) part (div-mul-le_self n (c * p))

  passed : n < (Q + 1) * (c * p)
  passed = subst (λ (z : ℕ). n < (z + 1) * (c * p)) part (subst (λ (z : ℕ). n < z) (sym (after (n / (c * p)))) (omega (arith, div-add-mod' n (c * p), mod-lt n (mul-pos c_pos p_pos))))
    where
      after : (x : ℕ) → (x + 1) * (c * p) ≡ x * (c * p) + c * p
      after x = simp (add-mul, one-mul)

  step_back : Y < (Q + 1) * p → Y ≤ Q * p
  step_back l = le_of_suc-le-suc (lt_of_not-le (λ (g : Q * p < Y). not-le_of_lt l (step g)))

  below : Y < q * p → (Y + q * p) * c ≤ 2 * n
  below l = elim near_n.part [ inl e ↦ floor (e ∙ part) | inr e ↦ next (e ∙ ap (λ (z : ℕ). z + 1) part) ]
    where
      floor : q ≡ Q → (Y + q * p) * c ≤ 2 * n
      floor e =
          let x : Y * c ≤ q * p * c = mul-le-mul_right c (le_of_lt l) in
          let y : q * (c * p) ≤ n = subst (λ (z : ℕ). z * (c * p) ≤ n) (sym e) reached in
          le_trans (le_of_eq (add-mul Y (q * p) c)) (omega (arith, in_steps q))

      next : q ≡ Q + 1 → (Y + q * p) * c ≤ 2 * n
      next e =
          let x : Y * c ≤ Q * p * c = mul-le-mul_right c (step_back (subst (λ (z : ℕ). Y < z * p) e l)) in
          let y : q * (c * p) ≡ Q * (c * p) + c * p = ap (λ (z : ℕ). z * (c * p)) e ∙ add-mul Q 1 (c * p) ∙ ap (λ (z : ℕ). Q * (c * p) + z) (one-mul (c * p)) in
          le_trans (le_of_eq (add-mul Y (q * p) c)) (omega (arith, in_steps q, in_steps Q, near_n.over, mul_assoc 2 q (c * p)))

  above : q * p < Y → 2 * n ≤ (Y + q * p) * c
  above l = elim near_n.part [ inl e ↦ floor (e ∙ part) | inr e ↦ next (e ∙ ap (λ (z : ℕ). z + 1) part) ]
    where
      floor : q ≡ Q → 2 * n ≤ (Y + q * p) * c
      floor e =
          let x : (q + 1) * p * c ≤ Y * c = mul-le-mul_right c (subst (λ (z : ℕ). (z + 1) * p ≤ Y) (sym e) (step (subst (λ (z : ℕ). z * p < Y) e l))) in
          let y : (q + 1) * (c * p) ≡ q * (c * p) + c * p = add-mul q 1 (c * p) ∙ ap (λ (z : ℕ). q * (c * p) + z) (one-mul (c * p)) in
          let z : (2 * q + 1) * (c * p) ≡ 2 * (q * (c * p)) + c * p = add-mul (2 * q) 1 (c * p) ∙ (simp (mul_assoc, one-mul)) in
          le_trans (omega (arith, in_steps q, in_steps (q + 1), near_n.under)) (le_of_eq (sym (add-mul Y (q * p) c)))

      next : q ≡ Q + 1 → 2 * n ≤ (Y + q * p) * c
      next e =
          let x : q * p * c ≤ Y * c = mul-le-mul_right c (le_of_lt l) in
          let y : n < q * (c * p) = subst (λ (z : ℕ). n < z * (c * p)) (sym e) passed in
          le_trans (omega (arith, in_steps q)) (le_of_eq (sym (add-mul Y (q * p) c)))

module _ (f : Format) (a c : ℕ) (pos : 0 < c) (y : Float) (h : T (fits f y)) where
  whole_part : a * 2 ^ low f / (c * 2 ^ drop (prec f) (a * 2 ^ low f) c) ≡ a * 2 ^ low f / c / 2 ^ drop (prec f) (a * 2 ^ low f) c
  whole_part = sym (div-div-eq-div-mul (a * 2 ^ low f) c (2 ^ drop (prec f) (a * 2 ^ low f) c))

  no_value_between : a * 2 ^ low f / c / 2 ^ drop (prec f) (a * 2 ^ low f) c * 2 ^ drop (prec f) (a * 2 ^ low f) c < units_in f y
      → (a * 2 ^ low f / c / 2 ^ drop (prec f) (a * 2 ^ low f) c + 1) * 2 ^ drop (prec f) (a * 2 ^ low f) c ≤ units_in f y
  no_value_between l = next_step f y (a * 2 ^ low f / c) (drop (prec f) (a * 2 ^ low f) c) h refl l

  -- a value below the rounded one: the midpoint is not above the fraction
  pub midpoint_below : units_in f y < grid f a c → (units_in f y + grid f a c) * c ≤ 2 * (a * 2 ^ low f)
  midpoint_below l =
      let n = a * 2 ^ low f in
      let p = 2 ^ drop (prec f) n c in
      below n c p (kept (prec f) n c) (n / c / p) (units_in f y) pos (pow_pos (drop (prec f) n c)) (near n (c * p) (mul-pos pos (pow_pos (drop (prec f) n c)))) whole_part no_value_between l

  -- a value above the rounded one: the midpoint is not below the fraction
  pub midpoint_above : grid f a c < units_in f y → 2 * (a * 2 ^ low f) ≤ (units_in f y + grid f a c) * c
  midpoint_above l =
      let n = a * 2 ^ low f in
      let p = 2 ^ drop (prec f) n c in
      above n c p (kept (prec f) n c) (n / c / p) (units_in f y) pos (pow_pos (drop (prec f) n c)) (near n (c * p) (mul-pos pos (pow_pos (drop (prec f) n c)))) whole_part no_value_between l

-- ---- how far rounding goes

dropped_inside : (z p k : ℕ) → 2 ≤ p → z - p ≡ suc k → suc k < z
dropped_inside z p k t e = omega arith

-- at most to the double and one unit more

pub grid_small : (f : Format) (a c : ℕ) → grid f a c ≤ 2 * (a * 2 ^ low f / c) + 1
grid_small f a c =
    let n = a * 2 ^ low f in
    let w = n / c in
    let k = drop (prec f) n c in
    let p = 2 ^ k in
    let x : kept (prec f) n c ≤ suc (w / p) = le_trans (nearest-le (n / (c * p)) (compare (n % (c * p) * 2) (c * p))) (le_of_eq (ap suc (sym (div-div-eq-div-mul n c p)))) in
    let y : kept (prec f) n c * p ≤ w / p * p + p = le_trans (mul-le-mul_right p x) (le_of_eq (suc-mul (w / p) p)) in
    omega (arith, div-mul-le_self w p, step k refl)
  where
    step : (k : ℕ) → size (a * 2 ^ low f / c) - prec f ≡ k → 2 ^ k ≤ a * 2 ^ low f / c + 1
    step zero e = omega arith
    step (suc k) e = le_trans (size_reaches (a * 2 ^ low f / c) (suc k) (dropped_inside (size (a * 2 ^ low f / c)) (prec f) k (two f) e)) (le-add_right (a * 2 ^ low f / c) 1)

-- a fraction of one unit or more does not round to zero
pub grid_some : (f : Format) (a c : ℕ) → 0 < c → 0 < a * 2 ^ low f / c → 0 < grid f a c
grid_some f a c pos some =
    let n = a * 2 ^ low f in
    let k = drop (prec f) n c in
    let p = 2 ^ k in
    let Q : 0 < n / (c * p) = subst (λ (z : ℕ). 0 < z) (div-div-eq-div-mul n c p) ((le-div_iff_mul-le (pow_pos k)).1 (le_trans (le_of_eq (one-mul p)) (step k refl))) in
    mul-pos (elim (near n (c * p) (mul-pos pos (pow_pos k))).part [ inl e ↦ omega arith | inr e ↦ omega arith ]) (pow_pos k)
  where
    step : (k : ℕ) → size (a * 2 ^ low f / c) - prec f ≡ k → 2 ^ k ≤ a * 2 ^ low f / c
    step zero e = some
    step (suc k) e = size_reaches (a * 2 ^ low f / c) (suc k) (dropped_inside (size (a * 2 ^ low f / c)) (prec f) k (two f) e)
